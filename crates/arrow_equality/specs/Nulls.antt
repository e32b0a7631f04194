-- Null rows of columns.
--
-- Of a dictionary with the keys 0, null, 1 and the entries 7, null the rows are 7, null, null: the
-- bits are 0, 1, 1 and the count is 2.
use Rattle.std.specs.Prelude.{◌≡◌, ◌<◌, ◌≤◌, ◌*◌, ◌↔◌, ℕ, Bool, true, false, List, length, ⊤}
use Rattle.polars_arrays_flat.specs.ArrayRows.{is_null}
use Rattle.polars_arrays_flat.specs.Row.{Row, Null}
use Rattle.polars_arrays_words.specs.Bits.{bit_of, first_of, true_count}
use Rattle.arrow_arrays.specs.Columns.{Column, rows_of_parts}
use Rattle.arrow_arrays.specs.Good.{AreGoodParts}
use Rattle.arrow_parts.specs.declared.part.Part.{Part}
use Rattle.arrow_parts.specs.declared.refused.Refused.{Refused}
use Rattle.arrow_parts.specs.declared.refused.Refused.TheVariants.{Parts, Types, Room, Memory}

-- a bit for each of the first n rows, true if the row is null
abbrev pub null_bits : (ℕ → Row) → ℕ → List Bool
null_bits row n = first_of (λ i. is_null (row i)) n

-- of a column a bit for each row, set exactly if the row is null, zeros past the last row, and
-- the number of null rows
pub record AreNullRows (c : Column) (words : List ℕ) (count : ℕ) : Type 0 where
  pub room : c.len ≤ 64 * length words
  pub at_each : (i : ℕ) → i < c.len → (bit_of words i ≡ true) ↔ (c.row i ≡ Null)
  pub behind : (i : ℕ) → c.len ≤ i → bit_of words i ≡ false
  pub total : count ≡ true_count (λ i. is_null (c.row i)) c.len

-- null rows of the column that parts stand for
abbrev pub AreNullIn : List Part → List ℕ → ℕ → Type 0
AreNullIn parts words count = AreNullRows (rows_of_parts parts) words count

-- a refusal to write the null rows of parts into this many words is true: the parts are not good,
-- the words have fewer bits than rows, or an allocation failed
abbrev pub IsTrueNullRefusal : ℕ → List Part → Refused → Type 0
IsTrueNullRefusal words parts Parts = ¬ AreGoodParts parts
IsTrueNullRefusal words parts Types = ⊥
IsTrueNullRefusal words parts Room = ¬ ((rows_of_parts parts).len ≤ 64 * words)
IsTrueNullRefusal words parts Memory = ⊤
