-- Arrays whose rows are leaves: numbers, truth values, byte strings and texts.
use Rattle.std.specs.Prelude.{Bool, true, false}
use Rattle.polars_arrays_flat.specs.Kind.{Kind, BooleanKind, Int8Kind, Int16Kind, Int32Kind}
use Rattle.polars_arrays_flat.specs.Kind.{Int64Kind, Int128Kind, UInt8Kind, UInt16Kind, UInt32Kind}
use Rattle.polars_arrays_flat.specs.Kind.{UInt64Kind, UInt128Kind, BinaryKind, LargeBinaryKind}
use Rattle.polars_arrays_flat.specs.Kind.{Utf8Kind, LargeUtf8Kind, BinaryViewKind, Utf8ViewKind}
use Rattle.polars_arrays_flat.specs.Kind.{FixedSizeBinaryKind}

-- true for kinds of arrays whose rows are leaves: they hold no other array, and are not null arrays
abbrev pub is_leaf : Kind → Bool
is_leaf BooleanKind = true
is_leaf Int8Kind = true
is_leaf Int16Kind = true
is_leaf Int32Kind = true
is_leaf Int64Kind = true
is_leaf Int128Kind = true
is_leaf UInt8Kind = true
is_leaf UInt16Kind = true
is_leaf UInt32Kind = true
is_leaf UInt64Kind = true
is_leaf UInt128Kind = true
is_leaf BinaryKind = true
is_leaf LargeBinaryKind = true
is_leaf Utf8Kind = true
is_leaf LargeUtf8Kind = true
is_leaf BinaryViewKind = true
is_leaf Utf8ViewKind = true
is_leaf (FixedSizeBinaryKind size) = true
is_leaf _ = false
