-- Properties of a struct's columns, as the list that `StructArray::values` gives.
use Rattle.std.specs.Prelude.{◌≡◌, ℕ, ◌+◌, List, [], ◌∷◌, ⊤}
use Rattle.polars_arrays_flat.specs.DataType.{kind_of}
use Rattle.polars_arrays_flat.specs.Row.{RowList, no_rows, more_rows}
use Rattle.polars_arrays_flat.specs.declared.data_type.Field.{Field}
use Rattle.polars_arrays_nested.specs.AnyRows.{row}
use Rattle.polars_arrays_nested.specs.GoodParts.{IsGood}
use Rattle.polars_arrays_nested.specs.KeptAlike.{KeptAlike}
use Rattle.polars_arrays_nested.specs.Leaves.{leaves}
use Rattle.polars_arrays_nested.specs.Lengths.{len_of}
use Rattle.polars_arrays_nested.specs.Types.{type_of}
use Rattle.polars_arrays_nested.specs.declared.any_array.AnyArray.{AnyArray}

-- row i of each column
abbrev pub rows_at : List AnyArray → ℕ → RowList
rows_at [] i = no_rows
rows_at (first ∷ rest) i = more_rows (row first i) (rows_at rest i)

-- the number of leaf slots of all columns in the n rows from row `from` on
abbrev pub columns_leaves : List AnyArray → ℕ → ℕ → ℕ
columns_leaves [] from n = 0
columns_leaves (first ∷ rest) from n = leaves first from n + columns_leaves rest from n

-- n rows from row i on of each column, and from row j on of its counterpart, are kept alike
abbrev pub ColumnsAlike : List AnyArray → List AnyArray → ℕ → ℕ → ℕ → Type 0
ColumnsAlike [] [] i j n = ⊤
ColumnsAlike (first ∷ rest) (first' ∷ rest') i j n = KeptAlike first first' i j n
    × ColumnsAlike rest rest' i j n
ColumnsAlike _ _ i j n = ⊥

-- each field has a good column of its type and of `len` rows
abbrev pub AreColumns : List Field → ℕ → List AnyArray → Type 0
AreColumns [] len [] = ⊤
AreColumns (field ∷ fields) len (first ∷ rest) =
    (len_of first ≡ len) × (type_of first ≡ kind_of field.dtype) × IsGood first
    × AreColumns fields len rest
AreColumns _ len _ = ⊥
