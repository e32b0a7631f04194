-- The type of an array, as a tree.
use Rattle.std.specs.Prelude.{ℕ, List}

mutual
  -- a kind for each variant of `ArrowDataType`, with its sizes and the kinds of its parts
  pub data Kind : Type 0 where
    NullKind : Kind
    BooleanKind : Kind
    Int8Kind : Kind
    Int16Kind : Kind
    Int32Kind : Kind
    Int64Kind : Kind
    Int128Kind : Kind
    UInt8Kind : Kind
    UInt16Kind : Kind
    UInt32Kind : Kind
    UInt64Kind : Kind
    UInt128Kind : Kind
    BinaryKind : Kind
    LargeBinaryKind : Kind
    Utf8Kind : Kind
    LargeUtf8Kind : Kind
    BinaryViewKind : Kind
    Utf8ViewKind : Kind
    FixedSizeBinaryKind : ℕ → Kind
    ListKind : Kind → Kind
    LargeListKind : Kind → Kind
    FixedSizeListKind : Kind → ℕ → Kind
    StructKind : NamedKinds → Kind
    DictionaryKind : Kind → Kind → Kind

  -- a list of kinds, each under a name of UTF-8 bytes
  pub data NamedKinds : Type 0 where
    no_kinds : NamedKinds
    more_kinds : List ℕ → Kind → NamedKinds → NamedKinds
