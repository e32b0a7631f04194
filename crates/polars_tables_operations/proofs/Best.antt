-- The best of the present rows, as the first that passes the test.
use Rattle.std.proofs.Common.{◌≡◌, ◌≢◌, ◌<◌, ◌∙◌, ◌&&◌, ◌||◌, not, ℕ, zero, suc, Bool, true, false, cond, List, [], ◌∷◌, Option, Some, None, length, refl, sym, ap, arith}
use Rattle.std.specs.List.{list_all}
use Rattle.polars_arrays_flat.specs.ArrayRows.{is_null}
use Rattle.polars_arrays_flat.specs.Row.{Row, Null, Int, Truth, Bytes, Rows, Fields, Entry}
use Rattle.polars_arrays_flat.specs.StoredRows.{row}
use Rattle.polars_compare_extremes.specs.Extremes.{FindsBest, IsBest, NonePresent}
use Rattle.polars_tables_operations.specs.Reducing.{best_row, first_row, is_best}

-- ---- tests

null-is : (x : Row) → is_null x ≡ true → x ≡ Null
null-is Null e = refl
null-is (Int n) e = absurd (cc)
null-is (Truth b) e = absurd (cc)
null-is (Bytes bs) e = absurd (cc)
null-is (Rows rs) e = absurd (cc)
null-is (Fields rs) e = absurd (cc)
null-is (Entry r) e = absurd (cc)

not-null : (x : Row) → x ≢ Null → is_null x ≡ false
not-null x n = by_test (is_null x) refl where
  by_test : (b : Bool) → is_null x ≡ b → b ≡ false
  by_test true e = absurd (n (null-is x e))
  by_test false e = refl

-- ---- the first row that passes a test

first-at : (test : Row → Bool) (rows : List Row) (i : ℕ) → i < length rows → test (row rows i) ≡ true → ((k : ℕ) → k < i → test (row rows k) ≡ false) → first_row test rows ≡ Some (row rows i)
first-at test [] i h t f = absurd (omega arith)
first-at test (x ∷ rows) zero h t f = rw t refl
first-at test (x ∷ rows) (suc i) h t f = rw (f 0 (omega arith)) (first-at test rows i (omega arith) t (λ k b. f (suc k) (omega arith)))

first-none : (test : Row → Bool) (rows : List Row) → ((k : ℕ) → k < length rows → test (row rows k) ≡ false) → first_row test rows ≡ None
first-none test [] f = refl
first-none test (x ∷ rows) f = rw (f 0 (omega arith)) (first-none test rows (λ k b. f (suc k) (omega arith)))

all-pass : (test : Row → Bool) (rows : List Row) → ((k : ℕ) → k < length rows → test (row rows k) ≡ true) → list_all test rows ≡ true
all-pass test [] f = refl
all-pass test (x ∷ rows) f = rw (f 0 (omega arith)) (all-pass test rows (λ k b. f (suc k) (omega arith)))

and-false : (b : Bool) → (b && false) ≡ false
and-false true = refl
and-false false = refl

one-fails : (test : Row → Bool) (rows : List Row) (i : ℕ) → i < length rows → test (row rows i) ≡ false → list_all test rows ≡ false
one-fails test [] i h f = absurd (omega arith)
one-fails test (x ∷ rows) zero h f = rw f refl
one-fails test (x ∷ rows) (suc i) h f = rw (one-fails test rows i (omega arith) f) (and-false (test x))

-- ---- the best

module _ (better : Row → Row → Bool) (rows : List Row) where
  passes : (place : ℕ) → IsBest better rows place → is_best better rows (row rows place) ≡ true
  passes place best =
      rw (not-null (row rows place) best.present) (all-pass (λ y. is_null y || not (better y (row rows place))) rows (λ k h. each k h (is_null (row rows k)) refl)) where
        each : (k : ℕ) → k < length rows → (b : Bool) → is_null (row rows k) ≡ b → (b || not (better (row rows k) (row rows place))) ≡ true
        each k h true e = refl
        each k h false e = rw (best.best k h (λ n. let f = sym e ∙ ap is_null n in cc)) refl

  fails : (place : ℕ) → IsBest better rows place → (k : ℕ) → k < place → is_best better rows (row rows k) ≡ false
  fails place best k h = by_test (is_null (row rows k)) refl where
    by_test : (b : Bool) → is_null (row rows k) ≡ b → (not b && list_all (λ y. is_null y || not (better y (row rows k))) rows) ≡ false
    by_test true e = refl
    by_test false e =
        one-fails (λ y. is_null y || not (better y (row rows k))) rows place best.within
        (rw (not-null (row rows place) best.present, best.first k h (λ n. let f = sym e ∙ ap is_null n in cc)) refl)

  pub finds : (found : Row) → FindsBest better rows found → Some found ≡ best_row better rows
  finds found f =
      ap (λ (r : Row). Some r) f.is_row
      ∙ sym (first-at (is_best better rows) rows f.place f.is_best.within (passes f.place f.is_best) (fails f.place f.is_best))

  pub finds-none : NonePresent rows → None ≡ best_row better rows
  finds-none none = sym (first-none (is_best better rows) rows (λ k h. rw (none k h) refl))
