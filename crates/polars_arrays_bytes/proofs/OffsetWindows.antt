-- Windows of offsets, and the first bad row.
use Rattle.std.proofs.Common.{◌≡◌, ◌<◌, ◌≤◌, ◌+◌, ◌-◌, ℕ, ℤ, zero, suc, Bool, true, false, List, [], ◌∷◌, length, get_or, take, drop, map, refl, ap, sym, subst, ◌∙◌, arith}
use Rattle.std.specs.Prelude.{Option, Some, None}
use Rattle.std.specs.List.{range_with_len}
use Rattle.std.proofs.lemmas.List.{length-map, length-drop, get_or-map, take_rest}
use Rattle.std.proofs.lemmas.List.FromFn.{length-map-range_with_len, get_or-map-range_with_len}
use Rattle.polars_arrays_flat.specs.StoredRows.{rows_under, byte_slots}
use Rattle.polars_arrays_flat.specs.Row.{Row, Bytes}
use Rattle.polars_arrays_flat.specs.Validity.{HasBits, validity_window, window}
use Rattle.polars_arrays_numbers.specs.Naturals.{natural_of}
use Rattle.polars_arrays_bytes.specs.OffsetStrings.{OffsetStrings, places, place_at, row_count, between, string_between, strings_between, offset_strings, IsWithin, Bounds, IsGoodRow, AreGood, AreBounded}
use Rattle.polars_arrays_bytes.specs.Faults.{IsBadRow, IsFirstBad}
use Rattle.polars_arrays_bytes.proofs.Windows.{length-window, get_or-window, listed-window, window-map, byte_slots-window}

pub length-places : {A : Type 0} (value : A → ℤ) (offsets : List A) → length (places value offsets) ≡ length offsets
length-places value offsets = length-map offsets (λ offset. natural_of (value offset))

pub place_of : {A : Type 0} (value : A → ℤ) (offsets : List A) (i : ℕ) (d : A) → i < length offsets → place_at (places value offsets) i ≡ natural_of (value (get_or offsets i d))
place_of value offsets i d below = get_or-map (λ offset. natural_of (value offset)) offsets i d None below

pub places-window : {A : Type 0} (value : A → ℤ) (at n : ℕ) (offsets : List A) → places value (window at n offsets) ≡ window at n (places value offsets)
places-window value at n offsets = window-map (λ offset. natural_of (value offset)) at n offsets

pub length-strings : (all : List (Option ℕ)) (values : List ℕ) → length (strings_between all values) ≡ row_count all
length-strings all values = length-map-range_with_len (string_between all values) 0 (row_count all)

pub string_of-places : (all : List (Option ℕ)) (values : List ℕ) (i : ℕ) → i < row_count all → string_between all values i ≡ get_or (strings_between all values) i []
string_of-places all values i below =
    sym (get_or-map-range_with_len (string_between all values) 0 (row_count all) i i [] below (omega arith))

-- the places at both ends of a row
ends-window : (at n : ℕ) (all : List (Option ℕ)) (i : ℕ) → i < n → (place_at (window at (n + 1) all) i ≡ place_at all (at + i)) × (place_at (window at (n + 1) all) (i + 1) ≡ place_at all (at + i + 1))
ends-window at n all i below = (
  get_or-window at (n + 1) all i None (omega (arith, below)),
  get_or-window at (n + 1) all (i + 1) None (omega (arith, below)) ∙ ap (place_at all) (omega arith),
)

-- the strings between a window of places
pub strings-window : (at n : ℕ) (all : List (Option ℕ)) (values : List ℕ) → at + n < length all → strings_between (window at (n + 1) all) values ≡ window at n (strings_between all values)
strings-window at n all values within =
    let long : row_count (window at (n + 1) all) ≡ n = omega (arith, within, length-window at (n + 1) all (omega (arith, within))) in
    ap (λ (k : ℕ). map (string_between (window at (n + 1) all) values) (range_with_len 0 k)) long
    ∙ listed-window (string_between (window at (n + 1) all) values) (string_between all values) at n (row_count all) (omega (arith, within))
    (λ i below.
    let ends = ends-window at n all i below in
    ap (λ (p : Option ℕ). between values p (place_at (window at (n + 1) all) (i + 1))) ends.0 ∙ ap (between values (place_at all (at + i))) ends.1)

-- the end of a row is within the bytes, and so is its start
start_within : (n : ℕ) (from to : Option ℕ) → Bounds n from to → IsWithin n from
start_within n (Some from) (Some to) bounds = omega (arith, bounds.0, bounds.1)
start_within n None (Some to) bounds = absurd bounds
start_within n (Some from) None bounds = absurd bounds
start_within n None None bounds = absurd bounds

end_within : (n : ℕ) (from to : Option ℕ) → Bounds n from to → IsWithin n to
end_within n (Some from) (Some to) bounds = bounds.1
end_within n None (Some to) bounds = absurd bounds
end_within n (Some from) None bounds = absurd bounds
end_within n None None bounds = absurd bounds

-- each place of good ones is within the bytes
pub place_within : (n : ℕ) (all : List (Option ℕ)) (i : ℕ) → AreGood n all → i < length all → IsWithin n (place_at all i)
place_within n all zero good below = good.first
place_within n all (suc i) good below =
    let row = subst (λ (k : ℕ). Bounds n (place_at all i) (place_at all k)) (omega arith) (good.rows i (omega (arith, below))) in
    end_within n (place_at all i) (place_at all (suc i)) row

pub good-window : (m at n : ℕ) (all : List (Option ℕ)) → AreGood m all → at + n < length all → AreGood m (window at (n + 1) all)
good-window m at n all good within = record {
  first = subst (IsWithin m) (sym (get_or-window at (n + 1) all 0 None (omega arith))) (place_within m all (at + 0) good (omega (arith, within)));
  rows =
      λ i below.
      let inside : i < n = omega (arith, below, within, length-window at (n + 1) all (omega (arith, within))) in
      let ends = ends-window at n all i inside in
      let row = good.rows (at + i) (omega (arith, within, inside)) in
      subst (λ (p : Option ℕ). Bounds m p (place_at (window at (n + 1) all) (i + 1))) (sym ends.0) (subst (Bounds m (place_at all (at + i))) (sym ends.1) row);
}

-- an offset that is missing or leaves the bytes makes row 0 bad
pub bad_start : (n : ℕ) (all : List (Option ℕ)) → ¬ (IsWithin n (place_at all 0)) → IsFirstBad n all 0
bad_start n all outside = record {
  bad = bad all outside;
  before = λ k below. absurd (omega (arith, below));
}
  where
    bad : (all : List (Option ℕ)) → ¬ (IsWithin n (place_at all 0)) → IsBadRow n all 0
    bad [] outside = refl
    bad (only ∷ []) outside = (refl, outside)
    bad (first ∷ second ∷ rest) outside = (omega arith, λ good. outside (start_within n first second good))

-- a row between two offsets
pub bad_row : (n : ℕ) (all : List (Option ℕ)) (row : ℕ) → row < row_count all → ¬ (IsGoodRow n all row) → IsBadRow n all row
bad_row n [] row below bad = absurd (omega (arith, below))
bad_row n (only ∷ []) row below bad = absurd (omega (arith, below))
bad_row n (first ∷ second ∷ rest) row below bad = (below, bad)

-- parts with a bad row are not good
pub bad_not_good : (n : ℕ) (all : List (Option ℕ)) (row : ℕ) → IsFirstBad n all row → AreGood n all → ⊥
bad_not_good n all row first good = refuted all first.bad good.first (good.rows row)
  where
    refuted : (all : List (Option ℕ)) → IsBadRow n all row → IsWithin n (place_at all 0) → (row < row_count all → IsGoodRow n all row) → ⊥
    refuted [] bad start rows = start
    refuted (only ∷ []) bad start rows = bad.1 start
    refuted (first ∷ second ∷ rest) bad start rows = bad.1 (rows bad.0)

-- what a test denied is not so
pub told_not : {P : Type 0} → (P → false ≡ true) → P → ⊥
told_not says holds = let told = says holds in cc

pub ruleset faults = (bad_start, bad_row, bad_not_good)

-- a place that was read is the place in the list of all
pub place_read : {A : Type 0} (value : A → ℤ) (offsets : List A) (i : ℕ) (x : A) → x ≡ get_or offsets i x → i < length offsets → place_at (places value offsets) i ≡ natural_of (value x)
place_read value offsets i x is below = place_of value offsets i x below ∙ ap (λ (z : _). natural_of (value z)) (sym is)

-- both ends of a good row are there
start_there : (n : ℕ) (from to : Option ℕ) → Bounds n from to → from ≡ None → ⊥
start_there n (Some from) (Some to) bounds none = cc
start_there n None (Some to) bounds none = absurd bounds
start_there n (Some from) None bounds none = absurd bounds
start_there n None None bounds none = absurd bounds

end_there : (n : ℕ) (from to : Option ℕ) → Bounds n from to → to ≡ None → ⊥
end_there n (Some from) (Some to) bounds none = cc
end_there n None (Some to) bounds none = absurd bounds
end_there n (Some from) None bounds none = absurd bounds
end_there n None None bounds none = absurd bounds

-- and so are the two offsets that were read there
pub start_read : {A : Type 0} (value : A → ℤ) (n : ℕ) (offsets : List A) (i : ℕ) (x : A) → x ≡ get_or offsets i x → i < row_count offsets → IsGoodRow n (places value offsets) i → natural_of (value x) ≡ None → ⊥
start_read value n offsets i x is below good none =
    start_there n (place_at (places value offsets) i) (place_at (places value offsets) (i + 1)) good (place_read value offsets i x is (omega (arith, below)) ∙ none)

pub end_read : {A : Type 0} (value : A → ℤ) (n : ℕ) (offsets : List A) (i : ℕ) (y : A) → y ≡ get_or offsets (i + 1) y → i < row_count offsets → IsGoodRow n (places value offsets) i → natural_of (value y) ≡ None → ⊥
end_read value n offsets i y is below good none =
    end_there n (place_at (places value offsets) i) (place_at (places value offsets) (i + 1)) good (place_read value offsets (i + 1) y is (omega (arith, below)) ∙ none)

-- the offsets that were read at both ends of row i, and the places that they are
pub record ReadsRow {A : Type 0} (value : A → ℤ) (offsets : List A) (i from to : ℕ) : Type 0 where
  pub start : place_at (places value offsets) i ≡ Some from
  pub end : place_at (places value offsets) (i + 1) ≡ Some to

pub reads_row : {A : Type 0} (value : A → ℤ) (offsets : List A) (i : ℕ) (x y : A) (from to : ℕ) → i < row_count offsets → x ≡ get_or offsets i x → natural_of (value x) ≡ Some from → y ≡ get_or offsets (i + 1) y → natural_of (value y) ≡ Some to → ReadsRow value offsets i from to
reads_row value offsets i x y from to below x_is start y_is end = record {
  start = place_read value offsets i x x_is (omega (arith, below)) ∙ start;
  end = place_read value offsets (i + 1) y y_is (omega (arith, below)) ∙ end;
}

-- they bound the row
pub read_bounds : {A : Type 0} (value : A → ℤ) (n : ℕ) (offsets : List A) (i from to : ℕ) → ReadsRow value offsets i from to → IsGoodRow n (places value offsets) i → (from ≤ to) × (to ≤ n)
read_bounds value n offsets i from to reads good =
    subst (Bounds n (Some from)) reads.end (subst (λ (p : Option ℕ). Bounds n p (place_at (places value offsets) (i + 1))) reads.start good)

-- and the row's string lies between them
pub read_string : {A : Type 0} (value : A → ℤ) (offsets : List A) (values : List ℕ) (i from to : ℕ) → ReadsRow value offsets i from to → window from (to - from) values ≡ string_between (places value offsets) values i
read_string value offsets values i from to reads =
    sym (ap (λ (p : Option ℕ). between values p (place_at (places value offsets) (i + 1))) reads.start ∙ ap (between values (Some from)) reads.end)

-- all bytes from its start on begin with the row's
pub read_on : {A : Type 0} (value : A → ℤ) (offsets : List A) (values : List ℕ) (i from to : ℕ) → ReadsRow value offsets i from to → take (to - from) (take (length values - from) (drop from values)) ≡ string_between (places value offsets) values i
read_on value offsets values i from to reads =
    ap (take (to - from)) (take_rest values from) ∙ read_string value offsets values i from to reads

-- and are enough of them
pub rest_holds : (values : List ℕ) (from to : ℕ) → (from ≤ to) × (to ≤ length values) → to - from ≤ length (take (length values - from) (drop from values))
rest_holds values from to bounds =
    omega (arith, bounds.0, bounds.1, ap length (take_rest values from), length-drop from values)

-- the strings of an array once n rows from row `at` on are kept
pub offset_strings-window : {A : Type 0} (value : A → ℤ) (at n : ℕ) (offsets : List A) (values : List ℕ) → at + n < length offsets → strings_between (places value (window at (n + 1) offsets)) values ≡ window at n (strings_between (places value offsets) values)
offset_strings-window value at n offsets values within =
    ap (λ (all : List (Option ℕ)). strings_between all values) (places-window value at (n + 1) offsets) ∙ strings-window at n (places value offsets) values (omega (arith, within, length-places value offsets))

pub length-offset_strings : {A : Type 0} (value : A → ℤ) (offsets : List A) (values : List ℕ) → length (strings_between (places value offsets) values) ≡ row_count offsets
length-offset_strings value offsets values =
    length-strings (places value offsets) values ∙ ap (λ (k : ℕ). k - 1) (length-places value offsets)

pub length-offset_slots : {A : Type 0} (value : A → ℤ) (offsets : List A) (values : List ℕ) → length (byte_slots (strings_between (places value offsets) values)) ≡ row_count offsets
length-offset_slots value offsets values =
    length-map (strings_between (places value offsets) values) Bytes ∙ length-offset_strings value offsets values

pub good_offsets-window : {A : Type 0} (value : A → ℤ) (m at n : ℕ) (offsets : List A) → AreGood m (places value offsets) → at + n < length offsets → AreGood m (places value (window at (n + 1) offsets))
good_offsets-window value m at n offsets good within =
    subst (AreGood m) (sym (places-window value at (n + 1) offsets)) (good-window m at n (places value offsets) good (omega (arith, within, length-places value offsets)))

-- good offsets are one more than their rows
pub one_more : {A : Type 0} (value : A → ℤ) (m at n : ℕ) (offsets : List A) → AreGood m (places value offsets) → at + n ≤ row_count offsets → at + n < length offsets
one_more value m at n [] good within = absurd good.first
one_more value m at n (first ∷ rest) good within = omega (arith, within)

-- a string's place is that of a row between the offsets, which is good
pub row_among : {A : Type 0} (value : A → ℤ) (a : OffsetStrings A) (offsets : List A) (i : ℕ) → offsets ≡ a.offsets → i < length (offset_strings value a) → i < row_count offsets
row_among value a offsets i same below =
    omega (arith, below, length-offset_strings value a.offsets a.values, ap (λ (xs : List _). row_count xs) same)

pub row_good : {A : Type 0} (value : A → ℤ) (a : OffsetStrings A) (offsets : List A) (values : List ℕ) (i : ℕ) → offsets ≡ a.offsets → values ≡ a.values → AreGood (length a.values) (places value a.offsets) → i < length (offset_strings value a) → IsGoodRow (length values) (places value offsets) i
row_good value a offsets values i same same_bytes good below =
    rw (same, same_bytes) (good.rows i (omega (arith, below, length-strings (places value a.offsets) a.values)))

pub ruleset offset_rows = (string_of-places, length-places, length-offset_strings, length-offset_slots)

pub ruleset slices = (one_more, offset_strings-window, good_offsets-window, length-window)

-- kept rows make an array
pub bounded-window : {A : Type 0} (value : A → ℤ) (a : OffsetStrings A) (at n : ℕ) → AreBounded value a → at + n ≤ row_count a.offsets → AreBounded value (record { offsets = window at (n + 1) a.offsets; values = a.values; validity = validity_window at n a.validity })
bounded-window value a at n bounded within =
    let inside = one_more value (length a.values) at n a.offsets bounded.good within in
    let long : row_count (window at (n + 1) a.offsets) ≡ n = omega (arith, inside, length-window at (n + 1) a.offsets (omega (arith, inside))) in
    record {
      bits = subst (λ (k : ℕ). HasBits k (validity_window at n a.validity)) (sym long) (cut a.validity bounded.bits);
      good = good_offsets-window value (length a.values) at n a.offsets bounded.good inside;
    }
  where
    cut : (validity : Option (List Bool)) → HasBits (row_count a.offsets) validity → HasBits n (validity_window at n validity)
    cut None bits = bits
    cut (Some all) bits = length-window at n all (omega (arith, bits, within))

-- the same of parts that are known by equations
pub kept-bounded : {A : Type 0} (value : A → ℤ) (old : OffsetStrings A) (at n : ℕ) (offsets : List A) (validity : Option (List Bool)) → AreBounded value old → at + n ≤ row_count old.offsets → offsets ≡ window at (n + 1) old.offsets → validity ≡ validity_window at n old.validity → AreBounded value (record { offsets = offsets; values = old.values; validity = validity })
kept-bounded value old at n offsets validity bounded within cut masked =
    rw (cut, masked) (bounded-window value old at n bounded within)

-- and their rows are a window of the rows
pub kept-rows : {A : Type 0} (value : A → ℤ) (old : OffsetStrings A) (at n : ℕ) (offsets : List A) (validity : Option (List Bool)) → AreBounded value old → at + n ≤ row_count old.offsets → offsets ≡ window at (n + 1) old.offsets → ((slots : List Row) → rows_under validity (window at n slots) ≡ window at n (rows_under old.validity slots)) → rows_under validity (byte_slots (strings_between (places value offsets) old.values)) ≡ window at n (rows_under old.validity (byte_slots (offset_strings value old)))
kept-rows value old at n offsets validity bounded within cut masked =
    let inside = one_more value (length old.values) at n old.offsets bounded.good within in
    ap (λ (xs : List _). rows_under validity (byte_slots (strings_between (places value xs) old.values))) cut
    ∙ ap (λ (xs : List (List ℕ)). rows_under validity (byte_slots xs)) (offset_strings-window value at n old.offsets old.values inside)
    ∙ ap (rows_under validity) (byte_slots-window at n (offset_strings value old))
    ∙ masked (byte_slots (offset_strings value old))
