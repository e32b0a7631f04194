-- Leaves without nulls: comparing them needs no masks, and comparing a few needs no bitmap.
use Rattle.std.specs.Prelude.{◌≡◌, ◌≤◌, ◌<◌, ℕ, false, IsTrue}
use Rattle.polars_arrays_flat.specs.ArrayRows.{is_null}
use Rattle.polars_arrays_nested.specs.AnyRows.{row}
use Rattle.polars_arrays_nested.specs.Lengths.{len_of}
use Rattle.polars_arrays_nested.specs.Types.{type_of}
use Rattle.polars_arrays_nested.specs.declared.any_array.AnyArray.{AnyArray}
use Rattle.polars_compare_nested.specs.Leaf.{is_leaf}

-- no row of an array is null
abbrev pub NoNulls : AnyArray → Type 0
NoNulls array = (i : ℕ) → i < len_of array → is_null (row array i) ≡ false

-- the rows of the left array are leaves, and no row of either array is null
pub record AreLeavesWithoutNulls (left right : AnyArray) : Type 0 where
  pub leaves : IsTrue (is_leaf (type_of left))
  pub left_there : NoNulls left
  pub right_there : NoNulls right

-- leaves without nulls, in windows of n rows that fit in a word
pub record AreFewLeaves (left right : AnyArray) (n : ℕ) : Type 0 where
  pub few : n ≤ 64
  pub whole : AreLeavesWithoutNulls left right
