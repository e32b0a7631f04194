-- How many rows are stored.
use Rattle.std.proofs.Common.{◌≡◌, ◌-◌, ℕ, ℤ, Bool, List, length, map, replicate, ◌∙◌, ap}
use Rattle.std.proofs.lemmas.List.{length-map, length-replicate}
use Rattle.std.proofs.lemmas.List.FromFn.{length-map-range_with_len}
use Rattle.polars_arrays_bytes.specs.OffsetStrings.{places, row_count, string_between, strings_between}
use Rattle.polars_arrays_bytes.specs.SizedStrings.{sized_string, sized_strings}
use Rattle.polars_arrays_flat.specs.Row.{Row, Null, Int, Truth, Bytes}
use Rattle.polars_arrays_flat.specs.StoredRows.{byte_slots, number_slots, truth_slots}
use Rattle.polars_arrays_nested.specs.StoredRows.{listed}
use Rattle.polars_arrays_nested.proofs.Places.{length-places}
use Rattle.polars_arrays_views.specs.Views.{row_bytes}

pub length-numbers : {A : Type 0} (value : A → ℤ) (xs : List A) → length (number_slots value xs) ≡ length xs
length-numbers value xs = length-map xs (λ x. Int (value x))

pub length-truths : (xs : List Bool) → length (truth_slots xs) ≡ length xs
length-truths xs = length-map xs Truth

pub length-between : {A : Type 0} (value : A → ℤ) (offsets : List A) (values : List ℕ) → length (byte_slots (strings_between (places value offsets) values)) ≡ row_count offsets
length-between value offsets values =
    length-map (strings_between (places value offsets) values) Bytes
    ∙ length-map-range_with_len (string_between (places value offsets) values) 0 (row_count (places value offsets))
    ∙ ap (λ (k : ℕ). k - 1) (length-places value offsets)

pub length-sized : (size count : ℕ) (values : List ℕ) → length (byte_slots (sized_strings size count values)) ≡ count
length-sized size count values =
    length-map (sized_strings size count values) Bytes ∙ length-map-range_with_len (sized_string size values) 0 count

pub length-views : (buffers views : List (List ℕ)) → length (byte_slots (map (row_bytes buffers) views)) ≡ length views
length-views buffers views = length-map (map (row_bytes buffers) views) Bytes ∙ length-map views (row_bytes buffers)

pub length-nulls : (n : ℕ) → length (replicate n Null) ≡ n
length-nulls n = length-replicate n Null

pub length-listed : (f : ℕ → Row) (n : ℕ) → length (listed f n) ≡ n
length-listed f n = length-map-range_with_len f 0 n

pub ruleset lengths = (length-numbers, length-truths, length-between, length-sized, length-views, length-nulls, length-listed)
