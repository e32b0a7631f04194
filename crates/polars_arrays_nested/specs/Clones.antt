-- Clones of arrays.
use Rattle.std.specs.Prelude.{◌≡◌, ◌<◌, ℕ, List, length, slice_index_or}
use Rattle.polars_arrays_nested.specs.AnyRows.{row}
use Rattle.polars_arrays_nested.specs.GoodParts.{IsGood}
use Rattle.polars_arrays_nested.specs.KeptAlike.{KeptAlike}
use Rattle.polars_arrays_nested.specs.Leaves.{leaves}
use Rattle.polars_arrays_nested.specs.Lengths.{len_of}
use Rattle.polars_arrays_nested.specs.Types.{type_of}
use Rattle.polars_arrays_nested.specs.declared.any_array.AnyArray.{AnyArray}

-- a has the type and rows of b, equal windows have equal leaf slots, kept alike; a is good if b is
pub record IsClone (a b : AnyArray) : Type 0 where
  pub one_type : type_of a ≡ type_of b
  pub as_long : len_of a ≡ len_of b
  pub same_rows : (i : ℕ) → row a i ≡ row b i
  pub same_leaves : (i m : ℕ) → leaves a i m ≡ leaves b i m
  pub alike : (i m : ℕ) → KeptAlike a b i i m
  pub good : IsGood b → IsGood a

-- the lists have equal length, and each array of xs is a clone of the one at its index in ys
pub record AreClones (xs ys : List AnyArray) : Type 0 where
  pub as_many : length xs ≡ length ys
  pub each : (i : ℕ) (d : AnyArray) → i < length ys
      → IsClone (slice_index_or xs i d) (slice_index_or ys i d)
