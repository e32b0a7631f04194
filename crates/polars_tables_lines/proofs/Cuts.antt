-- The lines of a text, from its first one on.
use Rattle.std.proofs.Common.{◌≡◌, ◌<◌, ◌≤◌, ◌+◌, ◌-◌, ◌∙◌, ◌==◌, ℕ, Bool, true, false, ltb, cond, Some, None, List, [], ◌∷◌, length, take, drop, refl, sym, ap, arith}
use Rattle.std.specs.Prelude.{if◌then◌else◌}
use Rattle.std.specs.List.{slice_split, position, position_or_len, before_first, after_first}
use Rattle.std.proofs.lemmas.List.{take_all, length-drop}
use Rattle.std.proofs.lemmas.List.Sums.{fails_before_first}
use Rattle.std.proofs.lemmas.List.Splits.{slice_split_first, slice_split_none, length-slice_split}
use Rattle.std.proofs.lemmas.Bool.{ltb-true, ltb-false}
use Rattle.std.proofs.lemmas.Bool.Decides.{nat_tests}
use Rattle.polars_tables_lines.specs.Output.{whole_lines, lines_of}

whole_lines-cons : (line : List ℕ) (parts : List (List ℕ)) → 0 < length parts → whole_lines (line ∷ parts) ≡ line ∷ whole_lines parts
whole_lines-cons line [] h = absurd (omega arith)
whole_lines-cons line (next ∷ more) h = refl

not_empty : (n : ℕ) → 0 < n → (n == 0) ≡ false
not_empty n h = grind (arith, nat_tests)

found : (b : Bool) (n i : ℕ) → cond b (Some n) None ≡ Some i → (b ≡ true) × (n ≡ i)
found true n i e = (refl, cc)
found false n i e = absurd (cc)

not_found : (b : Bool) (n : ℕ) → cond b (Some n) None ≡ None → b ≡ false
not_found true n e = absurd (cc)
not_found false n e = refl

some_parts : (text : List ℕ) → 0 < length (slice_split (λ c. c == 10) text)
some_parts text = omega (arith, length-slice_split (λ (c : ℕ). c == 10) text)

pub position_within : (text : List ℕ) (end : ℕ) → position (λ c. c == 10) text ≡ Some end → end < length text
position_within text end e =
    let f = found (ltb (position_or_len (λ c. c == 10) text) (length text)) (position_or_len (λ c. c == 10) text) end e in
    let h : position_or_len (λ c. c == 10) text < length text = ltb-true (position_or_len (λ c. c == 10) text) (length text) f.0 in
    omega (arith, h, f.1)

-- a line that ends in a line feed
pub lines_of-cut : (text : List ℕ) (end : ℕ) → position (λ c. c == 10) text ≡ Some end → lines_of text ≡ take end text ∷ lines_of (take (length text - (end + 1)) (drop (end + 1) text))
lines_of-cut text end e =
    let f = found (ltb (position_or_len (λ c. c == 10) text) (length text)) (position_or_len (λ c. c == 10) text) end e in
    let h : position_or_len (λ c. c == 10) text < length text = ltb-true (position_or_len (λ c. c == 10) text) (length text) f.0 in
    let parts = slice_split_first (λ (c : ℕ). c == 10) text 0 h in
    let rest : take (length text - (end + 1)) (drop (end + 1) text) ≡ drop (end + 1) text = take_all (length text - (end + 1)) (drop (end + 1) text) (omega (arith, length-drop (end + 1) text)) in
    ap whole_lines parts
    ∙ whole_lines-cons (before_first (λ c. c == 10) text) (slice_split (λ c. c == 10) (after_first (λ c. c == 10) text)) (some_parts (after_first (λ c. c == 10) text))
    ∙ ap (λ (n : ℕ). take n text ∷ lines_of (drop (n + 1) text)) f.1
    ∙ ap (λ (t : List ℕ). take end text ∷ lines_of t) (sym rest)

one_line : (n : ℕ) (text : List ℕ) → 0 < n → (if n == 0 then [] else text ∷ []) ≡ text ∷ []
one_line n text h = ap (λ (b : Bool). if b then [] else text ∷ []) (not_empty n h)

-- the last line, which ends in none
pub lines_of-rest : (text : List ℕ) → position (λ c. c == 10) text ≡ None → 0 < length text → lines_of text ≡ text ∷ []
lines_of-rest text e h =
    let n = not_found (ltb (position_or_len (λ c. c == 10) text) (length text)) (position_or_len (λ c. c == 10) text) e in
    let past : length text ≤ position_or_len (λ c. c == 10) text = ltb-false (position_or_len (λ c. c == 10) text) (length text) n in
    ap whole_lines (slice_split_none (λ (c : ℕ). c == 10) text (λ k d below. fails_before_first (λ (c : ℕ). c == 10) text k d (omega arith)))
    ∙ one_line (length text) text h
