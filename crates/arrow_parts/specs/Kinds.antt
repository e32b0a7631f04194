-- The kinds of parts by their numbers.
use Rattle.std.specs.Prelude.{ℕ, List, [], ◌∷◌, Option, Some, None, slice_index_or}
use Rattle.arrow_parts.specs.declared.part.PartKind.{PartKind}
use Rattle.arrow_parts.specs.declared.part.PartKind.TheVariants as kind

-- the kinds with numbers from 0 on; 0 is none
abbrev pub kinds : List (Option PartKind)
kinds =
    None ∷ Some kind.Null ∷ Some kind.Boolean
    ∷ Some kind.Int8 ∷ Some kind.Int16 ∷ Some kind.Int32 ∷ Some kind.Int64 ∷ Some kind.Int128
    ∷ Some kind.UInt8 ∷ Some kind.UInt16 ∷ Some kind.UInt32 ∷ Some kind.UInt64 ∷ Some kind.UInt128
    ∷ Some kind.Binary ∷ Some kind.LargeBinary ∷ Some kind.Utf8 ∷ Some kind.LargeUtf8
    ∷ Some kind.FixedSizeBinary
    ∷ Some kind.List ∷ Some kind.LargeList ∷ Some kind.FixedSizeList ∷ Some kind.Struct
    ∷ Some kind.DictInt8 ∷ Some kind.DictInt16 ∷ Some kind.DictInt32 ∷ Some kind.DictInt64
    ∷ Some kind.DictUInt8 ∷ Some kind.DictUInt16 ∷ Some kind.DictUInt32 ∷ Some kind.DictUInt64
    ∷ Some kind.BinaryView ∷ Some kind.Utf8View ∷ []

-- the kind with a number, or None
abbrev pub kind_number : ℕ → Option PartKind
kind_number n = slice_index_or kinds n None
