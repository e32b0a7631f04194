-- Places, by the numbers that they are read from.
use Rattle.std.proofs.Common.{◌≡◌, ◌<◌, ℕ, ℤ, List, length, get_or, take, drop, ap, sym, ◌∙◌}
use Rattle.std.specs.Prelude.{None}
use Rattle.std.proofs.lemmas.List.{length-map, get_or-map, take-map, drop-map}
use Rattle.std.proofs.lemmas.Option.{unwrap_or-slice_get}
use Rattle.polars_arrays_bytes.specs.OffsetStrings.{places, place_at}
use Rattle.polars_arrays_flat.specs.Validity.{window}
use Rattle.polars_arrays_numbers.specs.Naturals.{natural_of}

pub length-places : {A : Type 0} (value : A → ℤ) (numbers : List A) → length (places value numbers) ≡ length numbers
length-places value numbers = length-map numbers (λ x. natural_of (value x))

pub place_of-number : {A : Type 0} (value : A → ℤ) (numbers : List A) (i : ℕ) (d : A) → i < length numbers → place_at (places value numbers) i ≡ natural_of (value (get_or numbers i d))
place_of-number value numbers i d below = get_or-map (λ x. natural_of (value x)) numbers i d None below

pub places-window : {A : Type 0} (value : A → ℤ) (at n : ℕ) (numbers : List A) → places value (window at n numbers) ≡ window at n (places value numbers)
places-window value at n numbers =
    sym (ap (take n) (drop-map (λ x. natural_of (value x)) at numbers) ∙ take-map (λ x. natural_of (value x)) n (drop at numbers))

pub ruleset places_of = (length-places, place_of-number, places-window)

pub ruleset reads = (unwrap_or-slice_get)
