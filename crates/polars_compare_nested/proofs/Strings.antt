-- How many byte strings there are.
use Rattle.std.proofs.Common.{◌≡◌, ◌-◌, ◌∙◌, ℕ, ℤ, List, length, ap}
use Rattle.std.proofs.lemmas.List.{length-map}
use Rattle.std.proofs.lemmas.List.FromFn.{length-map-range_with_len}
use Rattle.polars_arrays_bytes.specs.OffsetStrings.{OffsetStrings, offset_strings, places, row_count, string_between}
use Rattle.polars_arrays_bytes.specs.SizedStrings.{sized_string, sized_strings}
use Rattle.polars_arrays_numbers.specs.Naturals.{natural_of}

pub length-between : {A : Type 0} (value : A → ℤ) (a : OffsetStrings A) → length (offset_strings value a) ≡ row_count a.offsets
length-between value a =
    length-map-range_with_len (string_between (places value a.offsets) a.values) 0 (row_count (places value a.offsets))
    ∙ ap (λ (k : ℕ). k - 1) (length-map a.offsets (λ offset. natural_of (value offset)))

pub length-sized : (size count : ℕ) (values : List ℕ) → length (sized_strings size count values) ≡ count
length-sized size count values = length-map-range_with_len (sized_string size values) 0 count

pub ruleset counts = (length-between, length-sized)
