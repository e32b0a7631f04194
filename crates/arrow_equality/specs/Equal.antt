-- Equal rows of two columns.
use Rattle.std.specs.Prelude.{◌≡◌, ◌<◌, ◌≤◌, ◌*◌, ◌↔◌, ℕ, true, false, List, length}
use Rattle.std.specs.Prelude.{slice_index_or, ⊤}
use Rattle.polars_arrays_nested.specs.Types.{type_of}
use Rattle.polars_arrays_nested.specs.declared.any_array.AnyArray.{AnyArray}
use Rattle.polars_arrays_words.specs.Bits.{bit_of}
use Rattle.arrow_arrays.specs.Columns.{Column, rows_of_parts}
use Rattle.arrow_arrays.specs.Good.{AreGoodParts}
use Rattle.arrow_parts.specs.declared.part.Part.{Part}
use Rattle.arrow_parts.specs.declared.refused.Refused.{Refused}
use Rattle.arrow_parts.specs.declared.refused.Refused.TheVariants.{Parts, Types, Room, Memory}
use Rattle.arrow_arrays.specs.Stands.{Stands}
use Rattle.arrow_equality.specs.Compared.{IsCounted}
use Rattle.arrow_equality.specs.declared.compared.Compared.{Compared}

-- two columns are of one type and length
pub record AreAlike (left right : Column) : Type 0 where
  pub one_type : left.kind ≡ right.kind
  pub one_length : left.len ≡ right.len

-- of two columns of one type and length a bit for each row, set exactly if the two rows are the
-- same tree, and zeros past the last row
pub record AreEqualRows (left right : Column) (words : List ℕ) : Type 0 where
  pub one_type : left.kind ≡ right.kind
  pub one_length : left.len ≡ right.len
  pub room : left.len ≤ 64 * length words
  pub at_each : (i : ℕ) → i < left.len → (bit_of words i ≡ true) ↔ (left.row i ≡ right.row i)
  pub behind : (i : ℕ) → left.len ≤ i → bit_of words i ≡ false

-- the comparisons of leaves that the kernel makes of two arrays of one type with these rows: at
-- most one for each leaf slot of the left column
pub record IsCount (left right : Column) (n : ℕ) : Type 0 where
  pub left_array : AnyArray
  pub right_array : AnyArray
  pub one_type : type_of left_array ≡ type_of right_array
  pub left_stands : Stands left_array left
  pub right_stands : Stands right_array right
  pub counted : IsCounted left_array right_array n
  pub bound : n ≤ left.leaves 0 left.len

-- the comparison of arrays with these rows
pub record IsComparison (left right : Column) (c : Compared) : Type 0 where
  pub one_type : left.kind ≡ right.kind
  pub one_length : left.len ≡ right.len
  pub size : length c.bits ≡ left.len
  pub at_each : (i : ℕ) → i < left.len → (slice_index_or c.bits i false ≡ true)
      ↔ (left.row i ≡ right.row i)
  pub count : IsCount left right c.comparisons

-- equal rows of the columns that parts stand for
abbrev pub AreEqualIn : List Part → List Part → List ℕ → Type 0
AreEqualIn left right words = AreEqualRows (rows_of_parts left) (rows_of_parts right) words

-- the first word is the number of comparisons of the rows that parts stand for
abbrev pub IsCountIn : List Part → List Part → List ℕ → Type 0
IsCountIn left right words =
    IsCount (rows_of_parts left) (rows_of_parts right) (slice_index_or words 0 0)

-- words have a bit for each of n rows, and others a word for the count
pub record HaveRoom (n : ℕ) (words counts : List ℕ) : Type 0 where
  pub bits : n ≤ 64 * length words
  pub count : 1 ≤ length counts

-- a refusal to compare the rows of parts is true: parts of one side are not good, the two sides are
-- not of one type and length, or an allocation failed
abbrev pub IsRefusedComparison : List Part → List Part → Refused → Type 0
IsRefusedComparison left right Parts = ¬ (AreGoodParts left × AreGoodParts right)
IsRefusedComparison left right Types = ¬ (AreAlike (rows_of_parts left) (rows_of_parts right))
IsRefusedComparison left right Room = ⊥
IsRefusedComparison left right Memory = ⊤

-- a refusal to write the comparison into words is true: there may also be too few of them
abbrev pub IsTrueRefusal : List Part → List Part → List ℕ → List ℕ → Refused → Type 0
IsTrueRefusal left right words counts Room =
    ¬ (HaveRoom (rows_of_parts left).len words counts)
IsTrueRefusal left right words counts Parts = IsRefusedComparison left right Parts
IsTrueRefusal left right words counts Types = IsRefusedComparison left right Types
IsTrueRefusal left right words counts Memory = ⊤
