-- Arrays that contain no arrays.
use Rattle.std.specs.Prelude.{Bool, true, false}
use Rattle.polars_arrays_nested.specs.declared.any_array.AnyArray.{AnyArray, List', FixedSizeList'}
use Rattle.polars_arrays_nested.specs.declared.any_array.AnyArray.{Struct', Dictionary'}

-- true if an array contains no arrays: it is no list, struct or dictionary
abbrev pub is_flat : AnyArray → Bool
is_flat (List' offsets p values validity) = false
is_flat (FixedSizeList' width len p values validity) = false
is_flat (Struct' fields len p values validity) = false
is_flat (Dictionary' keys p values) = false
is_flat _ = true
