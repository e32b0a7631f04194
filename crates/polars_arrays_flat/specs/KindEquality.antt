-- The results of `==` for types and for fields.
use Rattle.std.specs.Prelude.{Bool, true, false, ◌&&◌, nat_eq, string_bytes}
use Rattle.std.specs.Ordering.{on, eq_of_both}
use Rattle.std.specs.Str.{bytes_eq}
use Rattle.polars_arrays_flat.specs.DataType.{kind_of}
use Rattle.polars_arrays_flat.specs.Kind.{Kind, NullKind, BooleanKind, Int8Kind, Int16Kind}
use Rattle.polars_arrays_flat.specs.Kind.{Int32Kind, Int64Kind, Int128Kind, UInt8Kind, UInt16Kind}
use Rattle.polars_arrays_flat.specs.Kind.{UInt32Kind, UInt64Kind, UInt128Kind, BinaryKind}
use Rattle.polars_arrays_flat.specs.Kind.{LargeBinaryKind, Utf8Kind, LargeUtf8Kind, BinaryViewKind}
use Rattle.polars_arrays_flat.specs.Kind.{Utf8ViewKind, FixedSizeBinaryKind, ListKind}
use Rattle.polars_arrays_flat.specs.Kind.{LargeListKind, FixedSizeListKind, StructKind}
use Rattle.polars_arrays_flat.specs.Kind.{DictionaryKind, NamedKinds, no_kinds, more_kinds}
use Rattle.polars_arrays_flat.specs.declared.data_type.ArrowDataType.{ArrowDataType}
use Rattle.polars_arrays_flat.specs.declared.data_type.Field.{Field}

abbrev mutual
  -- true if two kinds are equal
  pub kind_eq : Kind → Kind → Bool
  kind_eq NullKind NullKind = true
  kind_eq BooleanKind BooleanKind = true
  kind_eq Int8Kind Int8Kind = true
  kind_eq Int16Kind Int16Kind = true
  kind_eq Int32Kind Int32Kind = true
  kind_eq Int64Kind Int64Kind = true
  kind_eq Int128Kind Int128Kind = true
  kind_eq UInt8Kind UInt8Kind = true
  kind_eq UInt16Kind UInt16Kind = true
  kind_eq UInt32Kind UInt32Kind = true
  kind_eq UInt64Kind UInt64Kind = true
  kind_eq UInt128Kind UInt128Kind = true
  kind_eq BinaryKind BinaryKind = true
  kind_eq LargeBinaryKind LargeBinaryKind = true
  kind_eq Utf8Kind Utf8Kind = true
  kind_eq LargeUtf8Kind LargeUtf8Kind = true
  kind_eq BinaryViewKind BinaryViewKind = true
  kind_eq Utf8ViewKind Utf8ViewKind = true
  kind_eq (FixedSizeBinaryKind m) (FixedSizeBinaryKind n) = nat_eq m n
  kind_eq (ListKind j) (ListKind k) = kind_eq j k
  kind_eq (LargeListKind j) (LargeListKind k) = kind_eq j k
  kind_eq (FixedSizeListKind j m) (FixedSizeListKind k n) = nat_eq m n && kind_eq j k
  kind_eq (StructKind js) (StructKind ks) = named_eq js ks
  kind_eq (DictionaryKind i j) (DictionaryKind k l) = kind_eq i k && kind_eq j l
  kind_eq j k = false

  -- true if two lists of named kinds are equal
  pub named_eq : NamedKinds → NamedKinds → Bool
  named_eq no_kinds no_kinds = true
  named_eq (more_kinds a j js) (more_kinds b k ks) = bytes_eq a b && (kind_eq j k && named_eq js ks)
  named_eq js ks = false

-- true if two types are of equal kinds
abbrev pub dtype_eq : ArrowDataType → ArrowDataType → Bool
dtype_eq = on kind_of kind_eq

-- true if two fields have equal names, byte for byte, and equal kinds
abbrev pub field_eq : Field → Field → Bool
field_eq = eq_of_both (on (λ f. string_bytes f.name) bytes_eq) (on (λ f. kind_of f.dtype) kind_eq)
