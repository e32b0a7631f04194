-- A place among byte strings is one among the rows of their array, and the string there is the row that was found.
use Rattle.std.proofs.Common.{◌≡◌, ◌<◌, ◌-◌, ℕ, Bool, List, length, subst, sym, arith}
use Rattle.std.specs.Prelude.{ℤ}
use Rattle.std.proofs.lemmas.List.{length-map}
use Rattle.std.proofs.lemmas.List.FromFn.{length-map-range_with_len}
use Rattle.polars_arrays_bytes.specs.OffsetStrings.{OffsetStrings, offset_strings, places, row_count, string_between}
use Rattle.polars_arrays_flat.specs.Row.{Row, Bytes}
use Rattle.polars_arrays_views.specs.Parts.{ViewParts, view_strings}
use Rattle.polars_arrays_views.specs.Views.{row_bytes}
use Rattle.polars_compare_extremes.specs.Extremes.{FindsBest}

pub offset-within : {A : Type 0} (value : A → ℤ) (a : OffsetStrings A) (place : ℕ) → place < length (offset_strings value a) → place < length a.offsets - 1
offset-within value a place h =
    omega (arith, h, length-map-range_with_len (string_between (places value a.offsets) a.values) 0 (row_count (places value a.offsets)), length-map a.offsets (λ (o : _). Rattle.polars_arrays_numbers.specs.Naturals.natural_of (value o)))

pub view-within : (a : ViewParts) (place : ℕ) → place < length (view_strings a) → place < length a.views
view-within a place h = omega (arith, h, length-map a.views (row_bytes a.buffers))

pub lent : (better : Row → Row → Bool) (rows : List Row) (xs ys : List ℕ) → xs ≡ ys → FindsBest better rows (Bytes ys) → FindsBest better rows (Bytes xs)
lent better rows xs ys e found = subst (λ (zs : List ℕ). FindsBest better rows (Bytes zs)) (sym e) found

pub ruleset lends = (offset-within, view-within, lent)
