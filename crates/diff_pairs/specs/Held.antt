-- Arrays of cells, and of rows of cells.
use Rattle.std.specs.Prelude.{◌≡◌, ◌<◌, ℕ, Bool, true, false, List, [], length, get_or, map}
use Rattle.polars_arrays_flat.specs.Kind.{Kind, BinaryKind, FixedSizeListKind, LargeBinaryKind}
use Rattle.polars_arrays_flat.specs.Row.{Row, Bytes, Rows, row_list}
use Rattle.polars_arrays_nested.specs.AnyRows.{row}
use Rattle.polars_arrays_nested.specs.GoodParts.{IsGood}
use Rattle.polars_arrays_nested.specs.Lengths.{len_of}
use Rattle.polars_arrays_nested.specs.Types.{type_of}
use Rattle.polars_arrays_nested.specs.declared.any_array.AnyArray.{AnyArray}
use Rattle.diff_pairs.specs.Rows.{row_cells}

-- the type of cells, by whether their ends have 64 bits
abbrev pub cell_kind : Bool → Kind
cell_kind true = LargeBinaryKind
cell_kind false = BinaryKind

-- each row of the array is the string at its place
pub record HoldsCells (far : Bool) (strings : List (List ℕ)) (a : AnyArray) : Type 0 where
  pub good : IsGood a
  pub kind : type_of a ≡ cell_kind far
  pub len : len_of a ≡ length strings
  pub held : (k : ℕ) → k < length strings → row a k ≡ Bytes (get_or strings k [])

-- a row of cells as a tree: the list of its cells
abbrev pub cells_tree : List (List ℕ) → Row
cells_tree cells = Rows (row_list (map Bytes cells))

-- row i of the array is the list of the w cells of row i, and there are n rows
pub record HoldsRows (far : Bool) (w n : ℕ) (strings : List (List ℕ)) (a : AnyArray) : Type 0 where
  pub good : IsGood a
  pub kind : type_of a ≡ FixedSizeListKind (cell_kind far) w
  pub len : len_of a ≡ n
  pub held : (i : ℕ) → i < n → row a i ≡ cells_tree (row_cells w strings i)
