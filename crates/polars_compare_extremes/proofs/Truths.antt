-- The extremes of truth values, from how many are present and how many of these are true.
use Rattle.std.proofs.Common.{◌≡◌, ◌<◌, ◌+◌, ◌∙◌, ℕ, zero, suc, Bool, true, false, not, cond, ◌&&◌, List, [], ◌∷◌, length, map, count_by, refl, sym, ap, subst, arith}
use Rattle.std.specs.Prelude.{◌≢◌, Option, Some, None, nat_eq, nat_lt, slice_index_or}
use Rattle.std.specs.Simd.Lanes.{zip2}
use Rattle.std.proofs.lemmas.Bool.Decides.{nat_tests}
use Rattle.std.proofs.lemmas.List.{length-map, get_or-map}
use Rattle.std.proofs.lemmas.List.Recursion.{is_count_by}
use Rattle.polars_arrays_flat.specs.Row.{Row, Null, Truth}
use Rattle.polars_arrays_flat.specs.StoredRows.{row, masked, rows_under, truth_slots}
use Rattle.polars_compare_leaves.specs.Order.{row_less, row_greater}
use Rattle.polars_compare_extremes.specs.Extremes.{FindsBest, IsGreatest, IsLeast}
use Rattle.polars_compare_extremes.specs.Truths.{is_there, is_truth}

-- ---- counts
-- how many elements pass a test, by recursion
tally : {A : Type 0} → (A → Bool) → List A → ℕ
tally test [] = 0
tally test (x ∷ xs) = cond (test x) (1 + tally test xs) (tally test xs)

tally-is : {A : Type 0} (test : A → Bool) (xs : List A) → tally test xs ≡ count_by test xs
unfolding tally
tally-is test xs = is_count_by (tally test) test refl (λ x rest. refl) xs

there-slots : (values : List Bool) → length values ≡ tally is_there (truth_slots values)
unfolding tally
there-slots [] = refl
there-slots (x ∷ values) = omega (arith, there-slots values)

there-under : (bits values : List Bool) → length bits ≡ length values → tally (λ b. b) bits ≡ tally is_there (masked bits (truth_slots values))
unfolding tally
there-under [] values e = refl
there-under (b ∷ bits) [] e = absurd (omega arith)
there-under (true ∷ bits) (x ∷ values) e = ap (λ (n : ℕ). 1 + n) (there-under bits values (omega arith))
there-under (false ∷ bits) (x ∷ values) e = there-under bits values (omega arith)

true-slots : (values : List Bool) → tally (λ b. b) values ≡ tally (is_truth true) (truth_slots values)
unfolding tally
true-slots [] = refl
true-slots (true ∷ values) = ap (λ (n : ℕ). 1 + n) (true-slots values)
true-slots (false ∷ values) = true-slots values

true-under : (bits values : List Bool) → length bits ≡ length values → tally (λ b. b) (zip2 ◌&&◌ values bits) ≡ tally (is_truth true) (masked bits (truth_slots values))
unfolding tally
true-under [] [] e = refl
true-under [] (x ∷ values) e = absurd (omega arith)
true-under (b ∷ bits) [] e = absurd (omega arith)
true-under (true ∷ bits) (true ∷ values) e = ap (λ (n : ℕ). 1 + n) (true-under bits values (omega arith))
true-under (true ∷ bits) (false ∷ values) e = true-under bits values (omega arith)
true-under (false ∷ bits) (true ∷ values) e = true-under bits values (omega arith)
true-under (false ∷ bits) (false ∷ values) e = true-under bits values (omega arith)

pub present-all : (values : List Bool) → length values ≡ count_by is_there (truth_slots values)
present-all values = there-slots values ∙ tally-is is_there (truth_slots values)

pub present-masked : (bits values : List Bool) → length bits ≡ length values → count_by (λ b. b) bits ≡ count_by is_there (masked bits (truth_slots values))
present-masked bits values e = sym (tally-is (λ b. b) bits) ∙ there-under bits values e ∙ tally-is is_there (masked bits (truth_slots values))

pub true-all : (values : List Bool) → count_by (λ b. b) values ≡ count_by (is_truth true) (truth_slots values)
true-all values = sym (tally-is (λ b. b) values) ∙ true-slots values ∙ tally-is (is_truth true) (truth_slots values)

pub true-masked : (bits values : List Bool) → length bits ≡ length values → count_by (λ b. b) (zip2 ◌&&◌ values bits) ≡ count_by (is_truth true) (masked bits (truth_slots values))
true-masked bits values e = sym (tally-is (λ b. b) (zip2 ◌&&◌ values bits)) ∙ true-under bits values e ∙ tally-is (is_truth true) (masked bits (truth_slots values))

pub ruleset truth_counts = (present-all, present-masked, true-all, true-masked)

-- ---- the first row that passes a test
record FirstOf (test : Row → Bool) (rows : List Row) : Type 0 where
  place : ℕ
  within : place < length rows
  passes : test (row rows place) ≡ true
  before : (k : ℕ) → k < place → test (row rows k) ≡ false

next : (test : Row → Bool) (x : Row) (rows : List Row) → test x ≡ false → FirstOf test rows → FirstOf test (x ∷ rows)
next test x rows fails f = record {
  place = suc f.place;
  within = omega (arith, f.within);
  passes = f.passes;
  before = before;
}
  where
    before : (k : ℕ) → k < suc f.place → test (row (x ∷ rows) k) ≡ false
    before zero h = fails
    before (suc k) h = f.before k (omega arith)

first-found : (test : Row → Bool) (x : Row) (rows : List Row) (n : ℕ) (bit : Bool) → (0 < n → FirstOf test rows) → test x ≡ bit → 0 < cond bit (1 + n) n → FirstOf test (x ∷ rows)
first-found test x rows n true later e h = record { place = 0; within = omega arith; passes = e; before = λ k below. absurd (omega (arith, below)) }
first-found test x rows n false later e h = next test x rows e (later h)

first-of : (test : Row → Bool) (rows : List Row) → 0 < tally test rows → FirstOf test rows
unfolding tally
first-of test [] h = absurd (omega arith)
first-of test (x ∷ rows) h = first-found test x rows (tally test rows) (test x) (first-of test rows) refl h

fails-first : (n : ℕ) (bit : Bool) → cond bit (1 + n) n ≡ 0 → (bit ≡ false) × (n ≡ 0)
fails-first n true e = absurd (omega arith)
fails-first n false e = (refl, e)

none-of : (test : Row → Bool) (rows : List Row) → tally test rows ≡ 0 → (k : ℕ) → k < length rows → test (row rows k) ≡ false
unfolding tally
none-of test [] e k h = absurd (omega arith)
none-of test (x ∷ rows) e zero h = (fails-first (tally test rows) (test x) e).0
none-of test (x ∷ rows) e (suc k) h = none-of test rows (fails-first (tally test rows) (test x) e).1 k (omega arith)

-- ---- rows of truth values, each a cell
abbrev cell : Option Bool → Row
cell None = Null
cell (Some bit) = Truth bit

cells_of : List Bool → List Bool → List (Option Bool)
cells_of [] values = []
cells_of (bit ∷ bits) [] = []
cells_of (bit ∷ bits) (value ∷ values) = cond bit (Some value) None ∷ cells_of bits values

record Cells (rows : List Row) : Type 0 where
  cells : List (Option Bool)
  are : rows ≡ map cell cells

slot-cells : (values : List Bool) → truth_slots values ≡ map cell (map Some values)
slot-cells [] = refl
slot-cells (value ∷ values) = ap (λ (rows : List Row). Truth value ∷ rows) (slot-cells values)

masked-cells : (bits values : List Bool) → masked bits (truth_slots values) ≡ map cell (cells_of bits values)
unfolding cells_of
masked-cells [] values = refl
masked-cells (bit ∷ bits) [] = refl
masked-cells (true ∷ bits) (value ∷ values) = ap (λ (rows : List Row). Truth value ∷ rows) (masked-cells bits values)
masked-cells (false ∷ bits) (value ∷ values) = ap (λ (rows : List Row). Null ∷ rows) (masked-cells bits values)

are-cells : (mask : Option (List Bool)) (values : List Bool) → Cells (rows_under mask (truth_slots values))
are-cells None values = record { cells = map Some values; are = slot-cells values }
are-cells (Some bits) values = record { cells = cells_of bits values; are = masked-cells bits values }

-- the present ones are the true and the false ones
split : (cells : List (Option Bool)) → tally is_there (map cell cells) ≡ tally (is_truth true) (map cell cells) + tally (is_truth false) (map cell cells)
unfolding tally
split [] = refl
split (None ∷ cells) = split cells
split (Some true ∷ cells) = omega (arith, split cells)
split (Some false ∷ cells) = omega (arith, split cells)

cell-at : (cells : List (Option Bool)) (k : ℕ) → k < length (map cell cells) → row (map cell cells) k ≡ cell (slice_index_or cells k None)
cell-at cells k h = get_or-map cell cells k None Null (omega (arith, h, length-map cells cell))

-- ---- the best truth value
-- of two truth values `bit` is the better one
record IsBetter (better : Row → Row → Bool) (bit : Bool) : Type 0 where
  tops : (x : Option Bool) → better (cell x) (Truth bit) ≡ false
  beats : (x : Option Bool) → cell x ≢ Null → is_truth bit (cell x) ≡ false → better (Truth bit) (cell x) ≡ true
  ties : (x : Option Bool) → is_truth bit (cell x) ≡ false → better (cell x) (Truth (not bit)) ≡ false

is-bit : (bit : Bool) (x : Option Bool) → is_truth bit (cell x) ≡ true → cell x ≡ Truth bit
is-bit bit None e = cc
is-bit true (Some true) e = refl
is-bit true (Some false) e = cc
is-bit false (Some true) e = cc
is-bit false (Some false) e = refl

is-other : (bit : Bool) (x : Option Bool) → is_there (cell x) ≡ true → is_truth bit (cell x) ≡ false → cell x ≡ Truth (not bit)
is-other bit None e f = cc
is-other true (Some true) e f = cc
is-other true (Some false) e f = refl
is-other false (Some true) e f = refl
is-other false (Some false) e f = cc

is-null : (x : Option Bool) → is_there (cell x) ≡ false → cell x ≡ Null
is-null None e = refl
is-null (Some bit) e = cc

module _ (better : Row → Row → Bool) (bit : Bool) (law : IsBetter better bit) (cells : List (Option Bool)) where
  abbrev rows : List Row
  rows = map cell cells

  abbrev at : ℕ → Option Bool
  at k = slice_index_or cells k None

  -- where one is there, the first of those is the best
  bit-found : FirstOf (is_truth bit) rows → FindsBest better rows (Truth bit)
  bit-found f =
      let here : row rows f.place ≡ Truth bit = cell-at cells f.place f.within ∙ is-bit bit (at f.place) (ap (is_truth bit) (sym (cell-at cells f.place f.within)) ∙ f.passes) in
      record {
        place = f.place;
        is_row = sym here;
        is_best = record {
          within = f.within;
          present = λ e. let n : Truth bit ≡ Null = sym here ∙ e in cc;
          best = λ k h p. ap (λ (x : Row). better (row rows k) x) here ∙ ap (λ (x : Row). better x (Truth bit)) (cell-at cells k h) ∙ law.tops (at k);
          first = λ k h p.
              let below : k < length rows = omega (arith, h, f.within) in
              let there : cell (at k) ≢ Null = λ e. p (cell-at cells k below ∙ e) in
              let fails : is_truth bit (cell (at k)) ≡ false = ap (is_truth bit) (sym (cell-at cells k below)) ∙ f.before k h in
              ap (λ (x : Row). better x (row rows k)) here ∙ ap (better (Truth bit)) (cell-at cells k below) ∙ law.beats (at k) there fails;
        };
      }

  -- where none is there, the first present one is
  other-found : ((k : ℕ) → k < length rows → is_truth bit (row rows k) ≡ false) → FirstOf is_there rows → FindsBest better rows (Truth (not bit))
  other-found none f =
      let fails : (k : ℕ) → k < length rows → is_truth bit (cell (at k)) ≡ false = λ k h. ap (is_truth bit) (sym (cell-at cells k h)) ∙ none k h in
      let here : row rows f.place ≡ Truth (not bit) = cell-at cells f.place f.within ∙ is-other bit (at f.place) (ap is_there (sym (cell-at cells f.place f.within)) ∙ f.passes) (fails f.place f.within) in
      record {
        place = f.place;
        is_row = sym here;
        is_best = record {
          within = f.within;
          present = λ e. let n : Truth (not bit) ≡ Null = sym here ∙ e in cc;
          best = λ k h p. ap (λ (x : Row). better (row rows k) x) here ∙ ap (λ (x : Row). better x (Truth (not bit))) (cell-at cells k h) ∙ law.ties (at k) (fails k h);
          first = λ k h p.
              let below : k < length rows = omega (arith, h, f.within) in
              absurd (p (cell-at cells k below ∙ is-null (at k) (ap is_there (sym (cell-at cells k below)) ∙ f.before k h)));
        };
      }

false-is_less : IsBetter row_less false
false-is_less = record { tops = tops; beats = beats; ties = ties }
  where
    tops : (x : Option Bool) → row_less (cell x) (Truth false) ≡ false
    tops None = refl
    tops (Some true) = refl
    tops (Some false) = refl

    beats : (x : Option Bool) → cell x ≢ Null → is_truth false (cell x) ≡ false → row_less (Truth false) (cell x) ≡ true
    beats None p e = absurd (p refl)
    beats (Some true) p e = refl
    beats (Some false) p e = cc

    ties : (x : Option Bool) → is_truth false (cell x) ≡ false → row_less (cell x) (Truth true) ≡ false
    ties None e = refl
    ties (Some true) e = refl
    ties (Some false) e = cc

true-is_greater : IsBetter row_greater true
true-is_greater = record { tops = tops; beats = beats; ties = ties }
  where
    tops : (x : Option Bool) → row_greater (cell x) (Truth true) ≡ false
    tops None = refl
    tops (Some true) = refl
    tops (Some false) = refl

    beats : (x : Option Bool) → cell x ≢ Null → is_truth true (cell x) ≡ false → row_greater (Truth true) (cell x) ≡ true
    beats None p e = absurd (p refl)
    beats (Some true) p e = cc
    beats (Some false) p e = refl

    ties : (x : Option Bool) → is_truth true (cell x) ≡ false → row_greater (cell x) (Truth false) ≡ false
    ties None e = refl
    ties (Some true) e = cc
    ties (Some false) e = refl

-- ---- from the counts
eq-true : (t p : ℕ) → nat_eq t p ≡ true → t ≡ p
eq-true t p e = grind (arith, nat_tests)

eq-false : (t p : ℕ) → nat_eq t p ≡ false → t ≢ p
eq-false t p e = grind (arith, nat_tests)

lt-true : (t : ℕ) → nat_lt 0 t ≡ true → 0 < t
lt-true t e = grind (arith, nat_tests)

lt-false : (t : ℕ) → nat_lt 0 t ≡ false → t ≡ 0
lt-false t e = grind (arith, nat_tests)

module _ (cells : List (Option Bool)) (p t : ℕ) (there : p ≡ tally is_there (map cell cells)) (true_ones : t ≡ tally (is_truth true) (map cell cells)) (some : 0 < p) where
  least-by : (bit : Bool) → nat_eq t p ≡ bit → IsLeast (map cell cells) (Truth bit)
  least-by true e =
      let same : t ≡ p = eq-true t p e in
      let none : tally (is_truth false) (map cell cells) ≡ 0 = omega (arith, split cells, there, true_ones, same) in
      other-found row_less false false-is_less cells (none-of (is_truth false) (map cell cells) none) (first-of is_there (map cell cells) (omega (arith, there, some)))
  least-by false e =
      let apart : t ≢ p = eq-false t p e in
      bit-found row_less false false-is_less cells (first-of (is_truth false) (map cell cells) (omega (arith, split cells, there, true_ones, apart)))

  greatest-by : (bit : Bool) → nat_lt 0 t ≡ bit → IsGreatest (map cell cells) (Truth bit)
  greatest-by true e =
      let ones : 0 < t = lt-true t e in
      bit-found row_greater true true-is_greater cells (first-of (is_truth true) (map cell cells) (omega (arith, true_ones, ones)))
  greatest-by false e =
      let none : t ≡ 0 = lt-false t e in
      other-found row_greater true true-is_greater cells (none-of (is_truth true) (map cell cells) (sym true_ones ∙ none)) (first-of is_there (map cell cells) (omega (arith, there, some)))

module _ (mask : Option (List Bool)) (values : List Bool) (p : ℕ) where
  abbrev under : List Row
  under = rows_under mask (truth_slots values)

  these : Cells under
  these = are-cells mask values

  -- what was counted over the rows was counted over their cells
  over : (test : Row → Bool) (n : ℕ) → n ≡ count_by test under → n ≡ tally test (map cell these.cells)
  over test n e = e ∙ sym (tally-is test under) ∙ ap (tally test) these.are

  pub least-counted : (t : ℕ) → p ≡ count_by is_there under → t ≡ count_by (is_truth true) under → 0 < p → IsLeast under (Truth (nat_eq t p))
  least-counted t e f some =
      subst (λ (rows : List Row). IsLeast rows (Truth (nat_eq t p))) (sym these.are) (least-by these.cells p t (over is_there p e) (over (is_truth true) t f) some (nat_eq t p) refl)

  pub greatest-counted : (t : ℕ) → p ≡ count_by is_there under → t ≡ count_by (is_truth true) under → 0 < p → IsGreatest under (Truth (nat_lt 0 t))
  greatest-counted t e f some =
      subst (λ (rows : List Row). IsGreatest rows (Truth (nat_lt 0 t))) (sym these.are) (greatest-by these.cells p t (over is_there p e) (over (is_truth true) t f) some (nat_lt 0 t) refl)
