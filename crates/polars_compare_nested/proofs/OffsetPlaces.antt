-- Places, by the numbers that they are read from.
use Rattle.std.proofs.Common.{◌≡◌, ◌<◌, ◌∙◌, ℕ, ℤ, List, length, get_or, sym, ap}
use Rattle.std.specs.Prelude.{None, Some}
use Rattle.std.proofs.lemmas.List.{length-map, get_or-map}
use Rattle.polars_arrays_bytes.specs.OffsetStrings.{place_at, places}
use Rattle.polars_arrays_nested.specs.Places.{place_or_zero}
use Rattle.polars_arrays_numbers.specs.Naturals.{natural_of}
use Rattle.polars_compare_nested.specs.Runs.{start_of}

pub length-places : {A : Type 0} (value : A → ℤ) (numbers : List A) → length (places value numbers) ≡ length numbers
length-places value numbers = length-map numbers (λ x. natural_of (value x))

pub place_of-number : {A : Type 0} (value : A → ℤ) (numbers : List A) (i : ℕ) (d : A) → i < length numbers → place_at (places value numbers) i ≡ natural_of (value (get_or numbers i d))
place_of-number value numbers i d below = get_or-map (λ x. natural_of (value x)) numbers i d None below

-- the place of a number that was read
pub read_place : {A : Type 0} (value : A → ℤ) (numbers : List A) (i : ℕ) (x : A) → i < length numbers → x ≡ get_or numbers i x → natural_of (value x) ≡ place_at (places value numbers) i
read_place value numbers i x below is = ap (λ y. natural_of (value y)) is ∙ sym (place_of-number value numbers i x below)

-- and where it is one, the start that it gives
pub read_start : {A : Type 0} (value : A → ℤ) (numbers : List A) (i : ℕ) (x : A) (place : ℕ) → i < length numbers → x ≡ get_or numbers i x → natural_of (value x) ≡ Some place → start_of (places value numbers) i ≡ place
read_start value numbers i x place below is there =
    ap place_or_zero (sym (read_place value numbers i x below is) ∙ there)

pub ruleset places_of = (length-places, place_of-number)
