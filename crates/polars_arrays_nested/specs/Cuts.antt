-- Slices of arrays.
use Rattle.std.specs.Prelude.{◌≡◌, ◌+◌, ◌<◌, ◌≤◌, ℕ}
use Rattle.polars_arrays_nested.specs.AnyRows.{row}
use Rattle.polars_arrays_nested.specs.GoodParts.{IsGood}
use Rattle.polars_arrays_nested.specs.KeptAlike.{KeptAlike}
use Rattle.polars_arrays_nested.specs.Leaves.{leaves}
use Rattle.polars_arrays_nested.specs.Lengths.{len_of}
use Rattle.polars_arrays_nested.specs.Types.{type_of}
use Rattle.polars_arrays_nested.specs.declared.any_array.AnyArray.{AnyArray}

-- a is good, and is n rows of b from row `at` on: equal type, rows and leaf slots, kept alike
pub record IsCut (a b : AnyArray) (at n : ℕ) : Type 0 where
  pub one_type : type_of a ≡ type_of b
  pub as_long : len_of a ≡ n
  pub same_rows : (i : ℕ) → i < n → row a i ≡ row b (at + i)
  pub same_leaves : (i m : ℕ) → i + m ≤ n → leaves a i m ≡ leaves b (at + i) m
  pub alike : (i m : ℕ) → i + m ≤ n → KeptAlike a b i (at + i) m
  pub good : IsGood a
