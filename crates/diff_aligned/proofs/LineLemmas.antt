-- What lines give, one line more, and lines in the terminal's own colour.
use Rattle.std.proofs.Common.{◌≡◌, ◌<◌, ◌+◌, ℕ, Bool, List, [], ◌∷◌, ◌++◌, length, get_or, take, ap, ap₂, sym, ◌∙◌, refl}
use Rattle.std.proofs.lemmas.List.{append_assoc, append-nil, flat_map_more, map_more}
use Rattle.std.specs.Borrow.{Bor}
use Rattle.std.specs.List.{flat_map}
use Rattle.std.specs.Prelude.{codes, encode_utf8_all, map}
use Rattle.diff_aligned.specs.Paragraphs.{texts_bytes}
use Rattle.diff_aligned.specs.Pieces.{Piece, line_bytes, lines_bytes, plain_line}

-- the bytes of lines
abbrev texts : List (Bor (List ℕ)) → List (List ℕ)
texts = map (λ l. l.now)

-- what is made of lists one after another
pub flat_more : {X Y : Type 0} (f : X → List Y) (xs ys : List X) → flat_map f (xs ++ ys) ≡ flat_map f xs ++ flat_map f ys
flat_more f [] ys = refl
flat_more f (x ∷ xs) ys = ap (λ l. f x ++ l) (flat_more f xs ys) ∙ sym (append_assoc (f x) (flat_map f xs) (flat_map f ys))

given_more : {X : Type 0} (f : List ℕ → List X) (ls : List (Bor (List ℕ))) (i : ℕ) (d : Bor (List ℕ)) → i < length ls
    → flat_map f (texts (take i ls)) ++ f (get_or ls i d).now ≡ flat_map f (texts (take (i + 1) ls))
given_more f ls i d within = flat_map_more f [] (texts (take i ls)) (get_or ls i d).now ∙ ap (flat_map f) (sym (map_more (λ l. l.now) ls i d within))

-- what lines give, one line more
pub rows_given : {X : Type 0} (f : List ℕ → List X) (old before after : List X) (ls : List (Bor (List ℕ))) (i : ℕ) (d : Bor (List ℕ)) → i < length ls
    → before ≡ old ++ flat_map f (texts (take i ls)) → after ≡ before ++ f (get_or ls i d).now → after ≡ old ++ flat_map f (texts (take (i + 1) ls))
rows_given f old before after ls i d within b a =
    a ∙ ap (λ l. l ++ f (get_or ls i d).now) b ∙ append_assoc old (flat_map f (texts (take i ls))) (f (get_or ls i d).now) ∙ ap (λ l. old ++ l) (given_more f ls i d within)

pub texts_given : (f : List ℕ → List (List ℕ)) (old before after : List ℕ) (ls : List (Bor (List ℕ))) (i : ℕ) (d : Bor (List ℕ)) → i < length ls
    → before ≡ old ++ texts_bytes (flat_map f (texts (take i ls))) → after ≡ before ++ texts_bytes (f (get_or ls i d).now) → after ≡ old ++ texts_bytes (flat_map f (texts (take (i + 1) ls)))
texts_given f old before after ls i d within b a =
    let more : texts_bytes (flat_map f (texts (take i ls))) ++ texts_bytes (f (get_or ls i d).now) ≡ texts_bytes (flat_map f (texts (take (i + 1) ls))) =
    sym (flat_more (λ l. encode_utf8_all l ++ codes "\n") (flat_map f (texts (take i ls))) (f (get_or ls i d).now)) ∙ ap texts_bytes (given_more f ls i d within) in
    a ∙ ap (λ l. l ++ texts_bytes (f (get_or ls i d).now)) b ∙ append_assoc old (texts_bytes (flat_map f (texts (take i ls)))) (texts_bytes (f (get_or ls i d).now)) ∙ ap (λ l. old ++ l) more

-- lines in the terminal's own colour are their texts
pub plain_bytes : (colored : Bool) (ls : List (List ℕ)) → lines_bytes colored (map plain_line ls) ≡ texts_bytes ls
plain_bytes colored [] = refl
plain_bytes colored (l ∷ ls) = ap₂ (λ t r. (t ++ codes "\n") ++ r) (append-nil (encode_utf8_all l)) (plain_bytes colored ls)

-- lines after others
pub lines_more : (colored : Bool) (xs ys : List (List Piece)) → lines_bytes colored (xs ++ ys) ≡ lines_bytes colored xs ++ lines_bytes colored ys
lines_more colored [] ys = refl
lines_more colored (x ∷ xs) ys = ap (λ l. line_bytes colored x ++ l) (lines_more colored xs ys) ∙ sym (append_assoc (line_bytes colored x) (lines_bytes colored xs) (lines_bytes colored ys))

-- lines before, in and after a table
pub sheet_bytes : (colored : Bool) (out y z all : List ℕ) (before behind : List (List ℕ)) (rows : List (List Piece)) → y ≡ out ++ texts_bytes before → z ≡ y ++ lines_bytes colored rows
    → all ≡ z ++ texts_bytes behind → all ≡ out ++ lines_bytes colored (map plain_line before ++ rows ++ map plain_line behind)
sheet_bytes colored out y z all before behind rows a b c =
    let first = texts_bytes before in
    let last = texts_bytes behind in
    let middle = lines_bytes colored rows in
    let parts : lines_bytes colored ((map plain_line before ++ rows) ++ map plain_line behind) ≡ (first ++ middle) ++ last =
    lines_more colored (map plain_line before ++ rows) (map plain_line behind)
    ∙ ap₂ (λ x w. x ++ w) (lines_more colored (map plain_line before) rows ∙ ap (λ x. x ++ middle) (plain_bytes colored before)) (plain_bytes colored behind) in
    c ∙ ap (λ w. w ++ last) (b ∙ ap (λ w. w ++ middle) a ∙ append_assoc out first middle) ∙ append_assoc out (first ++ middle) last ∙ ap (λ w. out ++ w) (sym parts)
