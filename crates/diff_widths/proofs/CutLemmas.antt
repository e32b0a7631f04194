-- How wide texts are.
use Rattle.std.proofs.Common.{◌≡◌, ◌<◌, ◌≤◌, ◌+◌, ◌*◌, ℕ, false, List, [], ◌∷◌, length, get_or, drop, arith, ap, sym, ◌∙◌}
use Rattle.std.proofs.lemmas.List.{drop_more}
use Rattle.std.proofs.Math.ListN.{drop_of_length-le}
use Rattle.unicode_width.proofs.Rules.{width_or_zero-le}
use Rattle.diff_widths.specs.Cut.{char_columns, width}

-- a character takes at most three columns
pub char_columns-le : (c : ℕ) → char_columns c ≤ 3
unfolding char_columns
char_columns-le c = width_or_zero-le false c

pub width-le : (cs : List ℕ) → width cs ≤ 3 * length cs
width-le [] = omega arith
width-le (c ∷ cs) = omega (arith, char_columns-le c, width-le cs)

-- what stands at a place is the first of the rest
pub first_of_rest : (cs : List ℕ) (i c : ℕ) → i < length cs → c ≡ get_or cs i c → drop i cs ≡ c ∷ drop (i + 1) cs
first_of_rest cs i c within is = drop_more cs i c within ∙ ap (λ x. x ∷ drop (i + 1) cs) (sym is)

-- one character more is counted
pub counted : (cs : List ℕ) (i c total all : ℕ) → i < length cs → c ≡ get_or cs i c → total + width (drop i cs) ≡ all → (total + char_columns c) + width (drop (i + 1) cs) ≡ all
counted cs i c total all within is e = let first = ap width (first_of_rest cs i c within is) in omega (arith, first, e)

-- after the last one nothing is still to be counted
pub all_counted : (cs : List ℕ) (i total all : ℕ) → length cs ≤ i → total + width (drop i cs) ≡ all → total ≡ all
all_counted cs i total all past e = let none = ap width (drop_of_length-le cs past) in omega (arith, none, e)

-- the total with one character more fits
pub fits_more : (cs : List ℕ) (i c total : ℕ) → i < length cs → c ≡ get_or cs i c → total + width (drop i cs) ≡ width cs → total + char_columns c ≤ 3 * length cs
fits_more cs i c total within is e = let more = counted cs i c total (width cs) within is e in omega (arith, more, width-le cs)
