-- Pairs of rows of two arrays. Pair p is row left_rows[p] of the left array and row right_rows[p]
-- of the right one.
use Rattle.std.specs.Prelude.{◌≡◌, ◌<◌, ◌↔◌, ℕ, Bool, true, false, List, length, slice_index}
use Rattle.std.specs.Prelude.{slice_index_or}
use Rattle.polars_arrays_flat.specs.DataType.{key_kind}
use Rattle.polars_arrays_flat.specs.Kind.{DictionaryKind}
use Rattle.polars_arrays_flat.specs.declared.data_type.IntegerType.TheVariants as name
use Rattle.polars_arrays_nested.specs.AnyRows.{row, entry_row}
use Rattle.polars_arrays_nested.specs.GoodParts.{IsGood}
use Rattle.polars_arrays_nested.specs.Lengths.{len_of}
use Rattle.polars_arrays_nested.specs.Types.{type_of}
use Rattle.polars_arrays_nested.specs.declared.any_array.AnyArray.{AnyArray}

-- each number names one of n rows
abbrev pub NameRows : ℕ → List ℕ → Type 0
NameRows n rows = (p : ℕ) → p < length rows → slice_index rows p < n

-- the two rows of pair p are the same tree
abbrev pub AreSame : AnyArray → AnyArray → List ℕ → List ℕ → ℕ → Type 0
AreSame left right left_rows right_rows p = row left (slice_index left_rows p)
    ≡ row right (slice_index right_rows p)

-- the two rows of pair p are different trees
abbrev pub IsChanged : AnyArray → AnyArray → List ℕ → List ℕ → ℕ → Type 0
IsChanged left right left_rows right_rows p = ¬ (AreSame left right left_rows right_rows p)

-- one bit for each pair, which is set exactly where its two rows are the same tree
pub record TellsSame (left right : AnyArray) (left_rows right_rows : List ℕ) (bits : List Bool) :
    Type 0 where
  pub size : length bits ≡ length left_rows
  pub at_each : (p : ℕ) → p < length left_rows → (slice_index_or bits p false ≡ true)
      ↔ AreSame left right left_rows right_rows p

-- the bit at place p is not set
abbrev pub IsUnset : List Bool → ℕ → Type 0
IsUnset bits p = slice_index_or bits p false ≡ false

-- a dictionary over an array whose entries are the rows that the numbers name
pub record ArePicked (array : AnyArray) (rows : List ℕ) (picked : AnyArray) : Type 0 where
  pub good : IsGood picked
  pub kind : type_of picked ≡ DictionaryKind (key_kind name.UInt32) (type_of array)
  pub len : len_of picked ≡ length rows
  pub entries : (p : ℕ) → p < length rows → row picked p
      ≡ entry_row (row array (slice_index rows p))
