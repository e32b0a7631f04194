-- Rows folded to one number.
use Rattle.std.specs.Prelude.{◌≡◌, ℤ, Bool, cond, eqb, List, [], ◌∷◌, length, Option, Some, None}
use Rattle.polars_arrays_flat.specs.ArrayRows.{null_total}
use Rattle.polars_arrays_flat.specs.Row.{Row, Int}

-- the operator is associative and commutative, and joins two neutral numbers to the neutral number
pub record Folds (joined : ℤ → ℤ → ℤ) (neutral : ℤ) : Type 0 where
  pub any_groups : (a b c : ℤ) → joined (joined a b) c ≡ joined a (joined b c)
  pub any_order : (a b : ℤ) → joined a b ≡ joined b a
  pub any_times : joined neutral neutral ≡ neutral

-- a row joined with the fold of the rows after it; only numbers count
abbrev pub row_joined : (ℤ → ℤ → ℤ) → Row → ℤ → ℤ
row_joined joined (Int n) rest = joined n rest
row_joined joined row rest = rest

-- the fold of rows, which begins with the neutral number and is that number if no row is present
abbrev pub folded : (ℤ → ℤ → ℤ) → ℤ → List Row → ℤ
folded joined neutral [] = neutral
folded joined neutral (row ∷ rows) = row_joined joined row (folded joined neutral rows)

-- the number of a row, or the neutral one if the row has none
abbrev pub number_or : ℤ → Row → ℤ
number_or neutral (Int n) = n
number_or neutral row = neutral

-- true if no row is present
abbrev pub none_present : List Row → Bool
none_present rows = eqb (null_total rows) (length rows)

-- the fold of rows, or None if no row is present
abbrev pub folded_if_any : (ℤ → ℤ → ℤ) → ℤ → List Row → Option ℤ
folded_if_any joined neutral rows =
    cond (none_present rows) None (Some (folded joined neutral rows))
