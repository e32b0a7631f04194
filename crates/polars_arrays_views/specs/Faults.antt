-- The first fault of parts that do not make an array.
use Rattle.std.specs.Prelude.{◌<◌, ℕ, List, [], length, slice_index_or}
use Rattle.polars_arrays_bits.specs.declared.error.ArrayError.{ArrayError}
use Rattle.polars_arrays_bits.specs.declared.error.ArrayError.TheVariants.{Length, Offsets, Field}
use Rattle.polars_arrays_bits.specs.declared.error.ArrayError.TheVariants.{View, NotUtf8, Key}
use Rattle.polars_arrays_flat.specs.Validity.{HasBits}
use Rattle.polars_arrays_views.specs.Parts.{ViewParts}
use Rattle.polars_arrays_views.specs.Views.{GoodView}

-- row `row` is the first whose view is not good over these buffers
abbrev pub IsFirstBadView : List (List ℕ) → List (List ℕ) → ℕ → Type 0
IsFirstBadView buffers views row =
    (row < length views) × (¬ (GoodView buffers (slice_index_or views row [])))
    × ((k : ℕ) → k < row → GoodView buffers (slice_index_or views k []))

-- the error of bad parts (our own choice): `Length` before the first bad view, and no other
abbrev pub IsFirstFault : ViewParts → ArrayError → Type 0
IsFirstFault a Length = ¬ (HasBits (length a.views) a.validity)
IsFirstFault a (View row) = HasBits (length a.views) a.validity
    × IsFirstBadView a.buffers a.views row
IsFirstFault a (Offsets row) = ⊥
IsFirstFault a (Field place) = ⊥
IsFirstFault a (NotUtf8 row) = ⊥
IsFirstFault a (Key row) = ⊥
