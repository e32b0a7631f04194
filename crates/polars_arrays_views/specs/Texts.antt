-- Rows that are texts, and the first fault of parts that do not make an array of texts.
use Rattle.std.specs.Prelude.{◌<◌, ◌+◌, ℕ, List, [], length, slice_index_or}
use Rattle.std.specs.List.{All}
use Rattle.std.specs.Str.{IsCharBoundary, IsUtf8}
use Rattle.polars_arrays_bits.specs.declared.error.ArrayError.{ArrayError}
use Rattle.polars_arrays_bits.specs.declared.error.ArrayError.TheVariants.{Length, Offsets, Field}
use Rattle.polars_arrays_bits.specs.declared.error.ArrayError.TheVariants.{View, NotUtf8, Key}
use Rattle.polars_arrays_flat.specs.Validity.{HasBits}
use Rattle.polars_arrays_views.specs.Faults.{IsFirstBadView}
use Rattle.polars_arrays_views.specs.Parts.{ViewParts, view_strings, GoodParts}
use Rattle.polars_arrays_views.specs.Views.{buffer_at, view_buffer, view_len, view_offset}

-- the bytes of each row alone are UTF-8, also of masked rows
abbrev pub AllText : ViewParts → Type 0
AllText a = All IsUtf8 (view_strings a)

-- a row in a buffer begins and ends between two characters of it
pub record LiesBetween (buffers : List (List ℕ)) (v : List ℕ) : Type 0 where
  pub begins : IsCharBoundary (buffer_at buffers (view_buffer v)) (view_offset v)
  pub ends : IsCharBoundary (buffer_at buffers (view_buffer v)) (view_offset v + view_len v)

-- row `row` is the first whose bytes alone are not UTF-8
abbrev pub IsFirstNotText : List (List ℕ) → ℕ → Type 0
IsFirstNotText strings row =
    (row < length strings) × (¬ (IsUtf8 (slice_index_or strings row [])))
    × ((k : ℕ) → k < row → IsUtf8 (slice_index_or strings k []))

-- the error of bad parts (our own choice): that of the array of bytes before the first bad text
abbrev pub IsFirstTextFault : ViewParts → ArrayError → Type 0
IsFirstTextFault a Length = ¬ (HasBits (length a.views) a.validity)
IsFirstTextFault a (View row) = HasBits (length a.views) a.validity
    × IsFirstBadView a.buffers a.views row
IsFirstTextFault a (NotUtf8 row) = GoodParts a × IsFirstNotText (view_strings a) row
IsFirstTextFault a (Offsets row) = ⊥
IsFirstTextFault a (Field place) = ⊥
IsFirstTextFault a (Key row) = ⊥
