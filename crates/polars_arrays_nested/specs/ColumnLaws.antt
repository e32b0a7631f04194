-- Laws of structs by their columns: rows, type, leaf slots, `KeptAlike` and `IsGood`.
use Rattle.std.specs.Prelude.{◌≡◌, ℕ, ◌+◌, List, [], ◌∷◌}
use Rattle.std.proofs.Common.{refl, ap, ◌∙◌, sym, subst}
use Rattle.polars_arrays_flat.specs.DataType.{kinds_of}
use Rattle.polars_arrays_flat.specs.Kind.{StructKind}
use Rattle.polars_arrays_flat.specs.Row.{Fields, more_rows}
use Rattle.polars_arrays_flat.specs.StoredRows.{kept}
use Rattle.polars_arrays_flat.specs.Validity.{HasBits, is_present}
use Rattle.polars_arrays_flat.specs.declared.data_type.Field.{Field}
use Rattle.polars_arrays_nested.specs.AnyRows.{across, row}
use Rattle.polars_arrays_nested.specs.Columns.{AreColumns, ColumnsAlike, columns_leaves, rows_at}
use Rattle.polars_arrays_nested.specs.GoodParts.{AreFields, IsGood}
use Rattle.polars_arrays_nested.specs.KeptAlike.{AcrossAlike, KeptAlike}
use Rattle.polars_arrays_nested.specs.Leaves.{leaves, leaves_across}
use Rattle.polars_arrays_nested.specs.Parts.{columns, struct_fields, struct_validity}
use Rattle.polars_arrays_nested.specs.Types.{type_of}
use Rattle.polars_arrays_nested.specs.declared.any_array.AnyArray.{Struct, Row_of-AnyArray}
use Rattle.polars_arrays_nested.specs.declared.any_array.AnyArray.{end_of-AnyArray}
use Rattle.polars_arrays_nested.specs.declared.any_array.AnyArray.{more_of-AnyArray}
use Rattle.polars_arrays_nested.specs.declared.any_array.AnyArray.{items-the_row-AnyArray}
use Rattle.polars_arrays_nested.specs.declared.any_array.AnyArray.{items_hidden-the_row-AnyArray-0}
use Rattle.polars_arrays_nested.specs.declared.any_array.AnyArray.TheBlock.{
  hidden-the_row-AnyArray-0,
}
use Rattle.polars_arrays_nested.specs.declared.struct_array.StructArray.{StructArray}

across_is : (m : _) (all : Row_of-AnyArray m) (i : ℕ) → across all i
    ≡ rows_at (items-the_row-AnyArray m all) i
across_is m end_of-AnyArray i = refl
across_is m (more_of-AnyArray first rest) i = ap
    (λ r. more_rows (row first i) r) (across_is _ rest i)

leaves_across_is : (m : _) (all : Row_of-AnyArray m) (from n : ℕ) → leaves_across all from n
    ≡ columns_leaves (items-the_row-AnyArray m all) from n
leaves_across_is m end_of-AnyArray from n = refl
leaves_across_is m (more_of-AnyArray first rest) from n = ap
    (λ r. leaves first from n + r) (leaves_across_is _ rest from n)

across_alike : (m : _) (m' : _) (all : Row_of-AnyArray m) (all' : Row_of-AnyArray m') (i j n : ℕ)
    → ColumnsAlike (items-the_row-AnyArray m all) (items-the_row-AnyArray m' all') i j n
    → AcrossAlike all all' i j n
across_alike m m' end_of-AnyArray end_of-AnyArray i j n h = h
across_alike m m' end_of-AnyArray (more_of-AnyArray first' rest') i j n h = h
across_alike m m' (more_of-AnyArray first rest) end_of-AnyArray i j n h = h
across_alike m m' (more_of-AnyArray first rest) (more_of-AnyArray first' rest') i j n h =
    (h.0, across_alike _ _ rest rest' i j n h.1)

fields-columns : (m : _) (fields : List Field) (len : ℕ) (all : Row_of-AnyArray m)
    → AreFields fields len all → AreColumns fields len (items-the_row-AnyArray m all)
fields-columns m [] len end_of-AnyArray h = h
fields-columns m [] len (more_of-AnyArray first rest) h = h
fields-columns m (field ∷ fields) len end_of-AnyArray h = h
fields-columns m (field ∷ fields) len (more_of-AnyArray first rest) h =
    (h.0, h.1, h.2, fields-columns _ fields len rest h.3)

columns-fields : (m : _) (fields : List Field) (len : ℕ) (all : Row_of-AnyArray m)
    → AreColumns fields len (items-the_row-AnyArray m all) → AreFields fields len all
columns-fields m [] len end_of-AnyArray h = h
columns-fields m [] len (more_of-AnyArray first rest) h = h
columns-fields m (field ∷ fields) len end_of-AnyArray h = h
columns-fields m (field ∷ fields) len (more_of-AnyArray first rest) h =
    (h.0, h.1, h.2, columns-fields _ fields len rest h.3)

-- row i of a struct holds row i of each column, or is Null if it is masked
pub row-struct : (s : StructArray) (i : ℕ) → row (Struct s) i
    ≡ kept (is_present (struct_validity s) i) (Fields (rows_at (columns s) i))
row-struct s i =
    ap (λ r. kept (is_present (struct_validity s) i) (Fields r))
    (across_is _ (hidden-the_row-AnyArray-0 s.values) i ∙ ap
    (λ l. rows_at l i) (items_hidden-the_row-AnyArray-0 s.values))

-- the type of a struct is that of its fields
pub type-struct : (s : StructArray) → type_of (Struct s) ≡ StructKind (kinds_of (struct_fields s))
type-struct s = refl

-- the leaf slots of a struct are those of its columns
pub leaves-struct : (s : StructArray) (from n : ℕ) → leaves (Struct s) from n
    ≡ columns_leaves (columns s) from n
leaves-struct s from n =
    leaves_across_is _ (hidden-the_row-AnyArray-0 s.values) from n
    ∙ ap (λ l. columns_leaves l from n) (items_hidden-the_row-AnyArray-0 s.values)

-- windows of structs are kept alike if those of their columns are
pub alike-struct : (s t : StructArray) (i j n : ℕ) → ColumnsAlike (columns s) (columns t) i j n
    → KeptAlike (Struct s) (Struct t) i j n
alike-struct s t i j n alike =
    across_alike _ _ (hidden-the_row-AnyArray-0 s.values) (hidden-the_row-AnyArray-0 t.values) i j n
    (subst (λ l. ColumnsAlike l (items-the_row-AnyArray _ (hidden-the_row-AnyArray-0 t.values)) i j
    n) (sym (items_hidden-the_row-AnyArray-0 s.values))
    (subst (λ l. ColumnsAlike (columns s) l i j n) (sym (items_hidden-the_row-AnyArray-0 t.values))
    alike))

-- the validity of a good struct has a bit for each row, and each field has a good column
pub good-struct : (s : StructArray) → IsGood (Struct s) → HasBits s.len (struct_validity s)
    × AreColumns (struct_fields s) s.len (columns s)
good-struct s h = (
  h.0,
  subst (λ l. AreColumns (struct_fields s) s.len l) (items_hidden-the_row-AnyArray-0 s.values)
      (fields-columns _ (struct_fields s) s.len (hidden-the_row-AnyArray-0 s.values) h.1),
)

-- a struct is good if a validity has a bit for each row, and each field has a good column
pub struct-good : (s : StructArray) → HasBits s.len (struct_validity s)
    → AreColumns (struct_fields s) s.len (columns s) → IsGood (Struct s)
struct-good s bits good = (
  bits,
  columns-fields _ (struct_fields s) s.len (hidden-the_row-AnyArray-0 s.values)
      (subst (λ l. AreColumns (struct_fields s) s.len l)
      (sym (items_hidden-the_row-AnyArray-0 s.values)) good),
)
