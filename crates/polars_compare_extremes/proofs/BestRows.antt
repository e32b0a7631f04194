-- Rows of numbers folded to the best one.
use Rattle.std.proofs.Common.{◌≡◌, ◌≢◌, ◌⊎◌, ◌<◌, ◌∙◌, ℕ, zero, suc, Bool, true, false, cond, List, [], ◌∷◌, length, inl, inr, refl, sym, subst, ap, ap₂, arith}
use Rattle.std.specs.Prelude.{ℤ}
use mathlib.Core.Logic.{⊎_elim}
use Rattle.polars_arrays_flat.specs.Row.{Row, Null, Int, Truth, Bytes, Rows, Fields, Entry}
use Rattle.polars_arrays_flat.specs.StoredRows.{row}
use Rattle.polars_compute_reductions.specs.Folds.{folded, row_joined}
use Rattle.polars_compare_extremes.specs.BestNumber.{best_of}
use Rattle.polars_compare_extremes.specs.BestNumberLaws.{refuted}
use Rattle.polars_compare_extremes.specs.Extremes.{FindsBest}
use Rattle.polars_compare_extremes.specs.Preference.{Prefers}

-- each present row is a number
abbrev pub AreNumbers : List Row → Type 0
AreNumbers rows = (k : ℕ) → k < length rows → row rows k ≢ Null → (v : ℤ) × (row rows k ≡ Int v)

module _ (better : Row → Row → Bool) (law : Prefers Int better) where
  irreflexive : (v : ℤ) → better (Int v) (Int v) ≡ false
  irreflexive v = refuted (better (Int v) (Int v)) (λ h. let not = law.one_way v v h in cc)

  -- a null before the rows changes nothing
  null-best : (rows : List Row) (found : Row) (f : FindsBest better rows found) (k : ℕ) → k < suc (length rows) → row (Null ∷ rows) k ≢ Null → better (row (Null ∷ rows) k) (row rows f.place) ≡ false
  null-best rows found f zero h p = absurd (p refl)
  null-best rows found f (suc k) h p = f.is_best.best k (omega arith) p

  null-first : (rows : List Row) (found : Row) (f : FindsBest better rows found) (k : ℕ) → k < suc f.place → row (Null ∷ rows) k ≢ Null → better (row rows f.place) (row (Null ∷ rows) k) ≡ true
  null-first rows found f zero h p = absurd (p refl)
  null-first rows found f (suc k) h p = f.is_best.first k (omega arith) p

  after-null : (rows : List Row) (found : Row) → FindsBest better rows found → FindsBest better (Null ∷ rows) found
  after-null rows found f = record {
    place = suc f.place;
    is_row = f.is_row;
    is_best = record {
      within = omega (arith, f.is_best.within);
      present = f.is_best.present;
      best = null-best rows found f;
      first = null-first rows found f;
    };
  }

  -- a number before rows whose best is better
  worse-best : (v b : ℤ) (rows : List Row) (f : FindsBest better rows (Int b)) → better (Int b) (Int v) ≡ true → (k : ℕ) → k < suc (length rows) → row (Int v ∷ rows) k ≢ Null → better (row (Int v ∷ rows) k) (row rows f.place) ≡ false
  worse-best v b rows f e zero h p = ap (better (Int v)) (sym f.is_row) ∙ law.one_way b v e
  worse-best v b rows f e (suc k) h p = f.is_best.best k (omega arith) p

  worse-first : (v b : ℤ) (rows : List Row) (f : FindsBest better rows (Int b)) → better (Int b) (Int v) ≡ true → (k : ℕ) → k < suc f.place → row (Int v ∷ rows) k ≢ Null → better (row rows f.place) (row (Int v ∷ rows) k) ≡ true
  worse-first v b rows f e zero h p = ap (λ x. better x (Int v)) (sym f.is_row) ∙ e
  worse-first v b rows f e (suc k) h p = f.is_best.first k (omega arith) p

  after-worse : (v b : ℤ) (rows : List Row) → FindsBest better rows (Int b) → better (Int b) (Int v) ≡ true → FindsBest better (Int v ∷ rows) (Int b)
  after-worse v b rows f e = record {
    place = suc f.place;
    is_row = f.is_row;
    is_best = record {
      within = omega (arith, f.is_best.within);
      present = f.is_best.present;
      best = worse-best v b rows f e;
      first = worse-first v b rows f e;
    };
  }

  -- a number before rows none of which is better
  at-once-best : (v : ℤ) (rows : List Row) → ((k : ℕ) → k < length rows → row rows k ≢ Null → better (row rows k) (Int v) ≡ false) → (k : ℕ) → k < suc (length rows) → row (Int v ∷ rows) k ≢ Null → better (row (Int v ∷ rows) k) (Int v) ≡ false
  at-once-best v rows not zero h p = irreflexive v
  at-once-best v rows not (suc k) h p = not k (omega arith) p

  at-once : (v : ℤ) (rows : List Row) → ((k : ℕ) → k < length rows → row rows k ≢ Null → better (row rows k) (Int v) ≡ false) → FindsBest better (Int v ∷ rows) (Int v)
  at-once v rows not = record {
    place = 0;
    is_row = refl;
    is_best = record {
      within = omega arith;
      present = λ e. cc;
      best = at-once-best v rows not;
      first = λ k h p. absurd (omega arith);
    };
  }

  module _ (n : ℤ) where
    abbrev best : List Row → ℤ
    best rows = folded (best_of better) n rows

    -- n is better than each present row
    abbrev Beats : List Row → Type 0
    Beats rows = (k : ℕ) → k < length rows → row rows k ≢ Null → better (Int n) (row rows k) ≡ true

    abbrev Stands : List Row → Type 0
    Stands rows = FindsBest better rows (Int (best rows)) ⊎ ((best rows ≡ n) × Beats rows)

    beats-null : (rows : List Row) → Beats rows → Beats (Null ∷ rows)
    beats-null rows beats zero h p = absurd (p refl)
    beats-null rows beats (suc k) h p = beats k (omega arith) p

    beats-more : (v : ℤ) (rows : List Row) → better (Int n) (Int v) ≡ true → Beats rows → Beats (Int v ∷ rows)
    beats-more v rows e beats zero h p = e
    beats-more v rows e beats (suc k) h p = beats k (omega arith) p

    -- what is not better than b, than which v is not worse, is not better than v
    none-better : (v b w : ℤ) → better (Int w) (Int b) ≡ false → better (Int b) (Int v) ≡ false → better (Int w) (Int v) ≡ false
    none-better v b w e f = refuted (better (Int w) (Int v)) (λ g. let h = law.passes v w b g f in cc)

    none-beyond : (v b : ℤ) (rows : List Row) → AreNumbers rows → (f : FindsBest better rows (Int b)) → better (Int b) (Int v) ≡ false → (k : ℕ) → k < length rows → row rows k ≢ Null → better (row rows k) (Int v) ≡ false
    none-beyond v b rows are f e k h p =
        let w = are k h p in
        ap (λ x. better x (Int v)) w.1
        ∙ none-better v b w.0 (ap₂ better (sym w.1) f.is_row ∙ f.is_best.best k h p) e

    none-beaten : (v : ℤ) (rows : List Row) → AreNumbers rows → Beats rows → better (Int n) (Int v) ≡ false → (k : ℕ) → k < length rows → row rows k ≢ Null → better (row rows k) (Int v) ≡ false
    none-beaten v rows are beats e k h p =
        let w = are k h p in
        ap (λ x. better x (Int v)) w.1
        ∙ none-better v n w.0 (law.one_way n w.0 (ap (better (Int n)) (sym w.1) ∙ beats k h p)) e

    step-null : (rows : List Row) → Stands rows → Stands (Null ∷ rows)
    step-null rows (inl f) = inl (after-null rows (Int (best rows)) f)
    step-null rows (inr s) = inr (s.0, beats-null rows s.1)

    step-number : (v : ℤ) (rows : List Row) (bit : Bool) → AreNumbers rows → better (Int (best rows)) (Int v) ≡ bit → Stands rows → Stands (Int v ∷ rows)
    step-number v rows true are e (inl f) =
        let is : best (Int v ∷ rows) ≡ best rows = ap (λ b. cond b (best rows) v) e in
        inl (subst (λ x. FindsBest better (Int v ∷ rows) (Int x)) (sym is) (after-worse v (best rows) rows f e))
    step-number v rows true are e (inr s) =
        let is : best (Int v ∷ rows) ≡ best rows = ap (λ b. cond b (best rows) v) e in
        inr (is ∙ s.0, beats-more v rows (ap (λ x. better (Int x) (Int v)) (sym s.0) ∙ e) s.1)
    step-number v rows false are e (inl f) =
        let is : best (Int v ∷ rows) ≡ v = ap (λ b. cond b (best rows) v) e in
        inl (subst (λ x. FindsBest better (Int v ∷ rows) (Int x)) (sym is) (at-once v rows (none-beyond v (best rows) rows are f e)))
    step-number v rows false are e (inr s) =
        let is : best (Int v ∷ rows) ≡ v = ap (λ b. cond b (best rows) v) e in
        inl (subst (λ x. FindsBest better (Int v ∷ rows) (Int x)) (sym is) (at-once v rows (none-beaten v rows are s.1 (ap (λ x. better (Int x) (Int v)) (sym s.0) ∙ e))))

    -- a row that is present is a number
    step : (x : Row) (rows : List Row) → (x ≢ Null → (v : ℤ) × (x ≡ Int v)) → AreNumbers rows → Stands rows → Stands (x ∷ rows)
    step Null rows is are s = step-null rows s
    step (Int v) rows is are s = step-number v rows (better (Int (best rows)) (Int v)) are refl s
    step (Truth x) rows is are s = absurd (let w = is (λ e. cc) in let not = w.1 in cc)
    step (Bytes x) rows is are s = absurd (let w = is (λ e. cc) in let not = w.1 in cc)
    step (Rows x) rows is are s = absurd (let w = is (λ e. cc) in let not = w.1 in cc)
    step (Fields x) rows is are s = absurd (let w = is (λ e. cc) in let not = w.1 in cc)
    step (Entry x) rows is are s = absurd (let w = is (λ e. cc) in let not = w.1 in cc)

    stands : (rows : List Row) → AreNumbers rows → Stands rows
    stands [] are = inr (refl, λ k h p. absurd (omega arith))
    stands (x ∷ rows) are = step x rows (λ p. are 0 (omega arith) p) (λ k h p. are (suc k) (omega arith) p) (stands rows (λ k h p. are (suc k) (omega arith) p))

    -- where n is a row, the best row is found
    pub best-found : (rows : List Row) (i : ℕ) → AreNumbers rows → i < length rows → row rows i ≡ Int n → FindsBest better rows (Int (best rows))
    best-found rows i are h e =
        ⊎_elim (λ f. f)
        (λ s.
        let beaten = ap (better (Int n)) (sym e) ∙ s.1 i h (λ null. let not = sym e ∙ null in cc) in
        let not = irreflexive n in cc)
        (stands rows are)

-- operators that join alike fold alike
module _ (joined other : ℤ → ℤ → ℤ) (alike : (m n : ℤ) → joined m n ≡ other m n) (n : ℤ) where
  row-alike : (x : Row) (a b : ℤ) → a ≡ b → row_joined joined x a ≡ row_joined other x b
  row-alike (Int v) a b e = ap (joined v) e ∙ alike v b
  row-alike Null a b e = e
  row-alike (Truth x) a b e = e
  row-alike (Bytes x) a b e = e
  row-alike (Rows x) a b e = e
  row-alike (Fields x) a b e = e
  row-alike (Entry x) a b e = e

  pub folded-alike : (rows : List Row) → folded joined n rows ≡ folded other n rows
  folded-alike [] = refl
  folded-alike (x ∷ rows) = row-alike x (folded joined n rows) (folded other n rows) (folded-alike rows)
