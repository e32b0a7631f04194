-- Sorts of kinds that have a parameter.
use Rattle.std.specs.Prelude.{Bool, true, false}
use Rattle.polars_arrays_flat.specs.Kind.{Kind, FixedSizeBinaryKind, ListKind, LargeListKind}
use Rattle.polars_arrays_flat.specs.Kind.{FixedSizeListKind, StructKind, DictionaryKind}

-- byte strings of one size
abbrev pub is_sized : Kind → Bool
is_sized (FixedSizeBinaryKind size) = true
is_sized _ = false

-- lists between offsets of either width
abbrev pub is_list : Kind → Bool
is_list (ListKind item) = true
is_list (LargeListKind item) = true
is_list _ = false

-- lists of one width
abbrev pub is_fixed_list : Kind → Bool
is_fixed_list (FixedSizeListKind item width) = true
is_fixed_list _ = false

-- structs
abbrev pub is_struct : Kind → Bool
is_struct (StructKind fields) = true
is_struct _ = false

-- dictionaries
abbrev pub is_dictionary : Kind → Bool
is_dictionary (DictionaryKind keys entry) = true
is_dictionary _ = false
