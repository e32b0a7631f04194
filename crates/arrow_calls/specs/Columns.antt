-- Columns of the numbers that a part lends.
--
-- Where a part lends the numbers 5, 6 and 7 and the bits 1, 0, 1, its rows are 5, null and 7.
use Rattle.std.specs.Prelude.{◌≡◌, ℕ, ℤ, List}
use Rattle.arrow_parts.specs.ByteBits.{HoldPresence}
use Rattle.arrow_parts.specs.Lent.{present_in}
use Rattle.arrow_parts.specs.declared.part.Part.{Part}
use Rattle.polars_arrays_flat.specs.Numbers.{Numbers}
use Rattle.polars_arrays_flat.specs.Row.{Row}
use Rattle.polars_arrays_flat.specs.StoredRows.{number_slots, rows_under}

-- the rows of stored numbers under the validity of a part
abbrev pub rows_lent : {A : Type 0} → (A → ℤ) → Part → List A → List Row
rows_lent value p xs = rows_under (present_in p) (number_slots value xs)

-- a column has the stored numbers, and the validity of a part
pub record Lends {A : Type 0} (p : Part) (xs : List A) (column : Numbers A) : Type 0 where
  pub values : column.values ≡ xs
  pub validity : column.validity ≡ present_in p

-- a part lends `count` numbers, one for each row, and a bit for each row or none at all
pub record IsColumn (p : Part) (count : ℕ) : Type 0 where
  pub rows : count ≡ p.rows
  pub present : HoldPresence p.first_bit p.rows p.present.now
