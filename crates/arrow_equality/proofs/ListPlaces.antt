-- Lists between lent offsets.
use Rattle.std.proofs.Common.{◌≡◌, ◌∙◌, ◌<◌, ◌≤◌, ◌+◌, ◌-◌, ◌&&◌, ℕ, ℤ, Bool, cond, List, length, get_or, ap, ap₂, arith, add-one}
use Rattle.std.specs.Prelude.{IfSome, Option, Some, None}
use Rattle.polars_arrays_numbers.specs.Naturals.{natural_of}
use Rattle.polars_arrays_bytes.specs.OffsetStrings.{AreGood, Bounds, place_at, row_count}
use Rattle.polars_arrays_bytes.proofs.WholeTexts.{there}
use Rattle.polars_arrays_flat.specs.Validity.{HasBits, is_present}
use Rattle.polars_arrays_nested.specs.Places.{place_or_zero}
use Rattle.polars_compare_nested.specs.Runs.{IsSpan}
use Rattle.arrow_parts.specs.Lent.{place_from, places_from}
use Rattle.arrow_arrays.specs.Columns.{placed}
use Rattle.arrow_equality.specs.Lists.{AreSpans, AreWithin, items_of_both, list_size}
use Rattle.arrow_equality.proofs.LentPlaces.{length-lent, place-lent}

-- a good offset is there
pub there-lent : {A : Type 0} (value : A → ℤ) (base n : ℕ) (offsets : List A) (i : ℕ) (x : A) → x ≡ get_or offsets i x → i < length offsets → AreGood n (places_from base value offsets) → place_from base (natural_of (value x)) ≡ None → ⊥
there-lent value base n offsets i x is low good none =
    there n (places_from base value offsets) good i (omega (arith, low, length-lent value base offsets)) (place-lent value base offsets i x is low ∙ none)

-- the place of an offset
pub placed-lent : {A : Type 0} (value : A → ℤ) (base : ℕ) (offsets : List A) (i : ℕ) (x : A) (at : ℕ) → x ≡ get_or offsets i x → i < length offsets → place_from base (natural_of (value x)) ≡ Some at → placed (places_from base value offsets) i ≡ at
placed-lent value base offsets i x at is low there =
    ap place_or_zero (place-lent value base offsets i x is low ∙ there)

-- the items of one more list
pub items-more : (left right : Option (List Bool)) (all : List (Option ℕ)) (i steps more n : ℕ) (both : Bool) → steps ≡ items_of_both left right all i → both ≡ (is_present left i && is_present right i) → n ≡ list_size all i → more ≡ cond both n 0 → steps + more ≡ items_of_both left right all (i + 1)
items-more left right all i steps more n both before present size is =
    rw add-one (ap₂ ◌+◌ before (is ∙ ap₂ (λ (b : Bool) (m : ℕ). cond b m 0) present size))

-- a validity has a bit for each row
pub bit-there : (validity : Option (List Bool)) (n i : ℕ) → HasBits n validity → i < n → IfSome validity (λ bits. i < length bits)
bit-there (Some bits) n i has low = omega (arith, has, low)
bit-there None n i has low = tt

-- ---- good places

bounds-rise : (n : ℕ) (from to : Option ℕ) → Bounds n from to → place_or_zero from ≤ place_or_zero to
bounds-rise n (Some from) (Some to) bounds = bounds.0
bounds-rise n (Some from) None bounds = absurd bounds
bounds-rise n None to bounds = absurd bounds

bounds-window : (n : ℕ) (from to : Option ℕ) → Bounds n from to → place_or_zero from + (place_or_zero to - place_or_zero from) ≤ n
bounds-window n (Some from) (Some to) bounds = omega (arith, bounds.0, bounds.1)
bounds-window n (Some from) None bounds = absurd bounds
bounds-window n None to bounds = absurd bounds

-- a list lies between two places
pub good-span : (n : ℕ) (all : List (Option ℕ)) (i : ℕ) → AreGood n all → i < row_count all → IsSpan all i
good-span n all i good low = (
  there n all good i (omega (arith, low)),
  there n all good (i + 1) (omega (arith, low)),
  bounds-rise n (place_at all i) (place_at all (i + 1)) (good.rows i low),
)

pub good-spans : (n : ℕ) (all : List (Option ℕ)) (rows : ℕ) → AreGood n all → row_count all ≡ rows → AreSpans all rows
good-spans n all rows good count i low = good-span n all i good (omega (arith, low, count))

-- and among the items
pub list-within : (n : ℕ) (all : List (Option ℕ)) (i : ℕ) → AreGood n all → i < row_count all → placed all i + list_size all i ≤ n
list-within n all i good low =
    bounds-window n (place_at all i) (place_at all (i + 1)) (good.rows i low)

pub lists-within : (n : ℕ) (all : List (Option ℕ)) (rows : ℕ) → AreGood n all → row_count all ≡ rows → AreWithin n all rows
lists-within n all rows good count i low = list-within n all i good (omega (arith, low, count))
