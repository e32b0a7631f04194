-- Masks of any array.
use Rattle.std.specs.Prelude.{◌&&◌, ℕ, Bool, true, false, List, Option, Some, None, map, replicate}
use Rattle.std.specs.List.{range_with_len}
use Rattle.polars_arrays_flat.specs.Validity.{is_present}
use Rattle.polars_arrays_nested.specs.DictKeys.{key_at, key_count, key_validity}
use Rattle.polars_arrays_nested.specs.Lengths.{validity_of}
use Rattle.polars_arrays_nested.specs.declared.any_array.AnyArray.{AnyArray, Null, Dictionary'}
use Rattle.polars_arrays_nested.specs.declared.dict_keys.DictKeys.{DictKeys}

-- true if key i is present and names a present entry
abbrev pub names_present : DictKeys → Option (List Bool) → ℕ → Bool
names_present keys entries i = is_present (key_validity keys) i
    && is_present entries (key_at keys i)

-- for each key, true if it is present and names a present entry
abbrev pub named_bits : DictKeys → Option (List Bool) → List Bool
named_bits keys entries = map (names_present keys entries) (range_with_len 0 (key_count keys))

-- the mask of a dictionary, by the bits of its entries: the keys' validity if the entries have none
abbrev pub entry_mask : DictKeys → Option (List Bool) → Option (List Bool)
entry_mask keys None = key_validity keys
entry_mask keys (Some entries) = Some (named_bits keys (Some entries))

-- a bit for each row, set if it is not Null, or None if neither the array nor its entries have bits
abbrev pub presence_of : AnyArray → Option (List Bool)
presence_of (Null a) = Some (replicate a false)
presence_of (Dictionary' keys p values) = entry_mask keys (presence_of values)
presence_of a = validity_of a

-- true if there are bits
abbrev pub has_bits : Option (List Bool) → Bool
has_bits None = false
has_bits (Some bits) = true

-- the mask: a bit for each row, or None; no row of a null array is masked (our own choice)
abbrev pub mask_of : AnyArray → Option (List Bool)
mask_of (Null a) = None
mask_of a = presence_of a
