-- Where good lists lie among their items.
use Rattle.std.proofs.Common.{◌≡◌, ◌≤◌, ◌<◌, ◌+◌, ◌-◌, ℕ, zero, suc, List, [], ◌∷◌, ◌≢◌, length, sym, subst, arith, add-zero}
use Rattle.std.specs.Prelude.{Option, Some, None}
use Rattle.polars_arrays_bytes.specs.OffsetStrings.{AreGood, Bounds, IsWithin, place_at, row_count}
use Rattle.polars_arrays_nested.specs.ListOffsets.{list_count, list_places, offset_at, span}
use Rattle.polars_arrays_nested.specs.Places.{place_or_zero}
use Rattle.polars_arrays_nested.specs.declared.list_offsets.ListOffsets.{ListOffsets}
use Rattle.polars_compare_nested.specs.Runs.{IsSpan}

rises : (n : ℕ) (from to : Option ℕ) → Bounds n from to → place_or_zero from ≤ place_or_zero to
rises n (Some from) (Some to) bounds = bounds.0
rises n None (Some to) bounds = absurd bounds
rises n (Some from) None bounds = absurd bounds
rises n None None bounds = absurd bounds

first_within : (n : ℕ) (at : Option ℕ) → IsWithin n at → place_or_zero at ≤ n
first_within n (Some at) within = within
first_within n None within = absurd within

end_within : (n : ℕ) (from to : Option ℕ) → Bounds n from to → place_or_zero to ≤ n
end_within n (Some from) (Some to) bounds = bounds.1
end_within n None (Some to) bounds = absurd bounds
end_within n (Some from) None bounds = absurd bounds
end_within n None None bounds = absurd bounds

one_more : (n : ℕ) (all : List (Option ℕ)) (i : ℕ) → AreGood n all → i ≤ row_count all → i < length all
one_more n [] i good within = absurd good.first
one_more n (first ∷ rest) i good within = omega (arith, within)

-- there is an offset for each list, and one more
pub has_offset : (n : ℕ) (offsets : ListOffsets) (i : ℕ) → AreGood n (list_places offsets) → i ≤ list_count offsets → i < length (list_places offsets)
has_offset n offsets i good within = one_more n (list_places offsets) i good within

-- a list ends no sooner than it begins
pub offset_step : (n : ℕ) (offsets : ListOffsets) (i : ℕ) → AreGood n (list_places offsets) → i < list_count offsets → offset_at offsets i ≤ offset_at offsets (i + 1)
offset_step n offsets i good within =
    rises n (place_at (list_places offsets) i) (place_at (list_places offsets) (i + 1)) (good.rows i within)

-- nor do later offsets fall
pub offset_rise : (n : ℕ) (offsets : ListOffsets) (from m : ℕ) → AreGood n (list_places offsets) → from + m ≤ list_count offsets → offset_at offsets from ≤ offset_at offsets (from + m)
offset_rise n offsets from zero good within = rw add-zero (omega arith)
offset_rise n offsets from (suc m) good within =
    let before = offset_rise n offsets from m good (omega (arith, within)) in
    let step = offset_step n offsets (from + m) good (omega (arith, within)) in
    let next : from + suc m ≡ from + m + 1 = omega arith in
    subst (λ k. offset_at offsets from ≤ offset_at offsets k) (sym next) (omega (arith, before, step))

-- each offset is within the items
pub offset_within : (n : ℕ) (offsets : ListOffsets) (i : ℕ) → AreGood n (list_places offsets) → i ≤ list_count offsets → offset_at offsets i ≤ n
offset_within n offsets zero good within = first_within n (place_at (list_places offsets) 0) good.first
offset_within n offsets (suc i) good within =
    let next : i + 1 ≡ suc i = omega arith in
    subst (λ k. offset_at offsets k ≤ n) next (end_within n (place_at (list_places offsets) i) (place_at (list_places offsets) (i + 1)) (good.rows i (omega (arith, within))))

-- list k of n lists lies within the items of all of them
pub list_part : (items : ℕ) (offsets : ListOffsets) (a n k : ℕ) → AreGood items (list_places offsets) → a + n ≤ list_count offsets → k < n → offset_at offsets (a + k) - offset_at offsets a + span offsets (a + k) ≤ offset_at offsets (a + n) - offset_at offsets a
list_part items offsets a n k good within low =
    let start = offset_rise items offsets a k good (omega (arith, within, low)) in
    let step = offset_step items offsets (a + k) good (omega (arith, within, low)) in
    let rest = offset_rise items offsets (a + k + 1) (n - (k + 1)) good (omega (arith, within, low)) in
    let last : a + k + 1 + (n - (k + 1)) ≡ a + n = omega (arith, low) in
    omega (arith, start, step, rw last at rest)

known_from : (n : ℕ) (from to : Option ℕ) → Bounds n from to → from ≢ None
known_from n (Some from) (Some to) bounds = λ e. cc
known_from n None (Some to) bounds = absurd bounds
known_from n (Some from) None bounds = absurd bounds
known_from n None None bounds = absurd bounds

known_to : (n : ℕ) (from to : Option ℕ) → Bounds n from to → to ≢ None
known_to n (Some from) (Some to) bounds = λ e. cc
known_to n None (Some to) bounds = absurd bounds
known_to n (Some from) None bounds = absurd bounds
known_to n None None bounds = absurd bounds

-- a list of good offsets lies between two places
pub good_span : (n : ℕ) (all : List (Option ℕ)) (i : ℕ) → AreGood n all → i < row_count all → IsSpan all i
good_span n all i good within =
    let from = place_at all i in
    let to = place_at all (i + 1) in
    let bounds = good.rows i within in
    (known_from n from to bounds, known_to n from to bounds, rises n from to bounds)
