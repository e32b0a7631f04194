-- The kind of a struct's type, by its fields.
use Rattle.std.specs.Prelude.{◌≡◌, string_bytes}
use Rattle.std.proofs.Common.{refl, ap, ◌∙◌}
use Rattle.std.specs.declared.vec.Vec.{Vec}
use Rattle.std.specs.declared.alloc.Global.{Global}
use Rattle.polars_arrays_flat.specs.DataType.{kind_of, kinds_in, kinds_of}
use Rattle.polars_arrays_flat.specs.Kind.{StructKind, more_kinds}
use Rattle.polars_arrays_flat.specs.declared.data_type.ArrowDataType.{Struct, Row_of-Field}
use Rattle.polars_arrays_flat.specs.declared.data_type.ArrowDataType.{end_of-Field, more_of-Field}
use Rattle.polars_arrays_flat.specs.declared.data_type.ArrowDataType.{items-the_row-Field}
use Rattle.polars_arrays_flat.specs.declared.data_type.ArrowDataType.{items_hidden-the_row-Field-0}
use Rattle.polars_arrays_flat.specs.declared.data_type.ArrowDataType.TheBlock.{
  hidden-the_row-Field-0,
}
use Rattle.polars_arrays_flat.specs.declared.data_type.Field.{Field}

kinds_in-is : (m : _) (all : Row_of-Field m) → kinds_in all ≡ kinds_of (items-the_row-Field m all)
kinds_in-is m end_of-Field = refl
kinds_in-is m (more_of-Field name dtype rest) =
    ap (λ r. more_kinds (string_bytes name) (kind_of dtype) r) (kinds_in-is _ rest)

-- a struct's kind is that of its fields
pub kind_of-struct : (fields : Vec Field Global) → kind_of (Struct fields)
    ≡ StructKind (kinds_of fields.items)
kind_of-struct fields =
    ap StructKind
    (kinds_in-is _ (hidden-the_row-Field-0 fields) ∙ ap kinds_of
    (items_hidden-the_row-Field-0 fields))
