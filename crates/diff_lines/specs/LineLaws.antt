-- Lines of a report.
use Rattle.std.proofs.Common.{◌≡◌, ◌<◌, ◌+◌, ℕ, true, false, List, [], ◌∷◌, ◌++◌, Option, Some}
use Rattle.std.proofs.Common.{None, length, get_or, take, arith, ap, sym, subst, ◌∙◌}
use Rattle.std.proofs.lemmas.List.{flat_map_more, get_or-map, length-map, map_more}
use Rattle.std.proofs.lemmas.List.Elements.{All-append, All-cons, All-nil}
use Rattle.std.specs.Borrow.{Bor}
use Rattle.std.specs.List.{flat_map}
use Rattle.std.specs.Prelude.{All, IsSome, codes, map, option_and_then, option_map}
use Rattle.json.specs.Json.{Json}
use Rattle.diff_lines.specs.Lines.{kind_named, line_of, line_value}
use Rattle.diff_lines.specs.Parts.{string_at}
use Rattle.diff_lines.specs.declared.line.Kind.{Kind}

-- the kind of a value, with the value
abbrev known : Json → Option (Kind × Json)
known j = option_map (λ k. (k, j)) (kind_named (string_at (codes "kind") j))

-- a line that is a value with a kind
pub line_known : (line : List ℕ) (j : Json) (k : Kind) → line_value line ≡ Some j
    → kind_named (string_at (codes "kind") j) ≡ Some k → line_of line ≡ Some (k, j)
unfolding line_of
line_known line j k d e = ap (option_and_then known) d ∙ ap (option_map (λ k. (k, j))) e

-- a line that is a value without a kind
pub line_unknown : (line : List ℕ) (j : Json) → line_value line ≡ Some j
    → kind_named (string_at (codes "kind") j) ≡ None → line_of line ≡ None
unfolding line_of
line_unknown line j d e = ap (option_and_then known) d ∙ ap (option_map (λ k. (k, j))) e

-- a line that is not a value
pub line_broken : (line : List ℕ) → line_value line ≡ None → line_of line ≡ None
unfolding line_of
line_broken line d = ap (option_and_then known) d

-- ---- lines one after another

-- the bytes of lines
abbrev pub texts : List (Bor (List ℕ)) → List (List ℕ)
texts = map (λ l. l.now)

texts_more : (ls : List (Bor (List ℕ))) (i : ℕ) (d : Bor (List ℕ)) → i < length ls
    → texts (take (i + 1) ls) ≡ texts (take i ls) ++ (get_or ls i d).now ∷ []
texts_more ls i d within = map_more (λ l. l.now) ls i d within

-- a property of the first i lines holds of one line more, if it holds of the next line
pub each_more : (P : List ℕ → Type 0) (ls : List (Bor (List ℕ))) (i : ℕ) (d : Bor (List ℕ))
    → i < length ls → All P (texts (take i ls)) → P (get_or ls i d).now
    → All P (texts (take (i + 1) ls))
each_more P ls i d within h p =
    subst (All P) (sym (texts_more ls i d within))
    (All-append P (texts (take i ls)) ((get_or ls i d).now ∷ []) h
    (All-cons P (get_or ls i d).now [] p (All-nil P)))

-- the text written for the first i lines, with one line more
pub written_more :
    (f : List ℕ → List ℕ) (old before after : List ℕ) (ls : List (Bor (List ℕ))) (i : ℕ)
    (d : Bor (List ℕ)) → i < length ls
    → before ≡ old ++ flat_map f (texts (take i ls)) → after ≡ before ++ f (get_or ls i d).now
    → after ≡ old ++ flat_map f (texts (take (i + 1) ls))
written_more f old before after ls i d within b a =
    a ∙ ap (λ l. l ++ f (get_or ls i d).now) b ∙ flat_map_more f old (texts (take i ls))
    (get_or ls i d).now ∙ ap (λ l. old ++ flat_map f l) (sym (texts_more ls i d within))

-- a property of all lines holds of the line at a place
pub holds_of_one : (P : List ℕ → Type 0) (ls : List (Bor (List ℕ))) (i : ℕ) (d : Bor (List ℕ))
    → i < length ls → All P (texts ls) → P (get_or ls i d).now
holds_of_one P ls i d within all =
    subst P (get_or-map (λ l. l.now) ls i d d.now within)
    (all i d.now (omega (arith, within, length-map ls (λ (l : Bor (List ℕ)). l.now))))

-- no line is both a line of a report and not one
pub none_is : (line : List ℕ) → line_of line ≡ None → IsSome (line_of line) → ⊥
none_is line e h = let no : false ≡ true = subst IsSome e h in absurd (cc)
