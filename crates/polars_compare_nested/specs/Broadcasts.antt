-- Rows compared with one row.
use Rattle.std.specs.Prelude.{◌≡◌, ◌<◌, ℕ, Bool, false, List, length, slice_index_or}
use Rattle.polars_arrays_flat.specs.Row.{Row, Rows}
use Rattle.polars_arrays_nested.specs.AnyRows.{row, rows_from}
use Rattle.polars_arrays_nested.specs.Lengths.{len_of}
use Rattle.polars_arrays_nested.specs.declared.any_array.AnyArray.{AnyArray}
use Rattle.polars_compare_leaves.specs.Sameness.{same_row}

-- all rows of an array as one list row
abbrev pub all_rows : AnyArray → Row
all_rows a = Rows (rows_from (row a) 0 (len_of a))

-- each of n bits says whether the row that f gives is the list of all rows of an array
pub record SameAsAll (f : ℕ → Row) (all : AnyArray) (n : ℕ) (bits : List Bool) : Type 0 where
  pub size : length bits ≡ n
  pub at_each : (i : ℕ) → i < n → slice_index_or bits i false ≡ same_row (f i) (all_rows all)
