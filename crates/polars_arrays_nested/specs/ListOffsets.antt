-- The offsets of lists as places among the items.
use Rattle.std.specs.Prelude.{◌+◌, ◌-◌, ℕ, Bool, true, false, List, Option}
use Rattle.polars_arrays_bytes.specs.OffsetStrings.{places, place_at, row_count}
use Rattle.polars_arrays_nested.specs.Places.{place_or_zero}
use Rattle.polars_arrays_nested.specs.declared.list_offsets.ListOffsets.{ListOffsets}
use Rattle.polars_arrays_nested.specs.declared.list_offsets.ListOffsets.TheVariants.{Small, Large}

-- each offset as a place among the items; None if it is negative
abbrev pub list_places : ListOffsets → List (Option ℕ)
list_places (Small offsets) = places (λ x. x) offsets.items
list_places (Large offsets) = places (λ x. x) offsets.items

-- the number of lists: one fewer than offsets, and none without an offset (our own choice)
abbrev pub list_count : ListOffsets → ℕ
list_count offsets = row_count (list_places offsets)

-- true if the offsets have 64 bits
abbrev pub is_large : ListOffsets → Bool
is_large (Small offsets) = false
is_large (Large offsets) = true

-- offset i as the index of an item; 0 for a negative offset, and past the last offset
abbrev pub offset_at : ListOffsets → ℕ → ℕ
offset_at offsets i = place_or_zero (place_at (list_places offsets) i)

-- the number of items of list i
abbrev pub span : ListOffsets → ℕ → ℕ
span offsets i = offset_at offsets (i + 1) - offset_at offsets i
