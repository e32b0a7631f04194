-- Numbers and nulls folded from a first number on: the fold is the first best row.
use Rattle.std.proofs.Common.{◌≡◌, ◌≢◌, ◌⊎◌, ◌<◌, ◌∙◌, ℕ, zero, suc, Bool, true, false, cond, List, [], ◌∷◌, length, get_or, inl, inr, refl, sym, subst, ap, ap₂, arith}
use Rattle.std.specs.Prelude.{ℤ, Option}
use Rattle.std.proofs.lemmas.List.{get_or-map}
use mathlib.Core.Logic.{⊎_elim}
use Rattle.polars_arrays_flat.specs.Row.{Row, Null, Int, Truth, Bytes, Rows, Fields, Entry}
use Rattle.polars_arrays_flat.proofs.RowWindows.{row-under}
use Rattle.polars_arrays_flat.specs.StoredRows.{row, kept, number_slots, rows_under}
use Rattle.polars_arrays_flat.specs.Validity.{HasBits, is_present}
use Rattle.polars_compute_reductions.specs.Folds.{folded, row_joined}
use Rattle.polars_compare_extremes.specs.BestNumber.{best_of}
use Rattle.polars_compare_extremes.specs.BestNumberLaws.{refuted}
use Rattle.polars_compare_extremes.specs.Extremes.{FindsBest, NonePresent}
use Rattle.polars_compare_extremes.specs.Places.{IsFirstPresent}
use Rattle.polars_compare_extremes.specs.Preference.{Prefers}
use Rattle.polars_compute_reductions.proofs.Reductions.{AreNumbers, rows-numbers}
use Rattle.polars_compute_reductions.proofs.FoldSteps.{length-rows, length-slots}

-- each present row is a number
number-at : (rows : List Row) (k : ℕ) → AreNumbers rows → k < length rows → row rows k ≢ Null → (v : ℤ) × (row rows k ≡ Int v)
number-at [] k are low some = absurd (omega arith)
number-at (Null ∷ rows) zero are low some = absurd (some refl)
number-at (Null ∷ rows) (suc k) are low some = number-at rows k are (omega arith) some
number-at (Int v ∷ rows) zero are low some = (v, refl)
number-at (Int v ∷ rows) (suc k) are low some = number-at rows k are (omega arith) some
number-at (Truth x ∷ rows) k are low some = absurd are
number-at (Bytes x ∷ rows) k are low some = absurd are
number-at (Rows x ∷ rows) k are low some = absurd are
number-at (Fields x ∷ rows) k are low some = absurd are
number-at (Entry x ∷ rows) k are low some = absurd are

module _ (better : Row → Row → Bool) (law : Prefers Int better) where
  -- m is better than each present row
  abbrev Beats : ℤ → List Row → Type 0
  Beats m rows = (k : ℕ) → k < length rows → row rows k ≢ Null → better (Int m) (row rows k) ≡ true

  -- no present row is better than m
  abbrev Unbeaten : ℤ → List Row → Type 0
  Unbeaten m rows = (k : ℕ) → k < length rows → row rows k ≢ Null → better (row rows k) (Int m) ≡ false

  irreflexive : (v : ℤ) → better (Int v) (Int v) ≡ false
  irreflexive v = refuted (better (Int v) (Int v)) (λ h. let not = law.one_way v v h in cc)

  -- of rows none of which is better than b, none is better than v, than which b is not better
  unbeaten-through : (v b : ℤ) (rows : List Row) → AreNumbers rows → better (Int b) (Int v) ≡ false → Unbeaten b rows → Unbeaten v rows
  unbeaten-through v b rows are e unbeaten k low some =
      let w = number-at rows k are low some in
      let not : better (Int w.0) (Int b) ≡ false = ap (λ x. better x (Int b)) (sym w.1) ∙ unbeaten k low some in
      ap (λ x. better x (Int v)) w.1
      ∙ refuted (better (Int w.0) (Int v)) (λ g. let h = law.passes v w.0 b g e in cc)

  beaten-none : (m : ℤ) (rows : List Row) → AreNumbers rows → Beats m rows → Unbeaten m rows
  beaten-none m rows are beats k low some =
      let w = number-at rows k are low some in
      ap (λ x. better x (Int m)) w.1
      ∙ law.one_way m w.0 (ap (better (Int m)) (sym w.1) ∙ beats k low some)

  -- ---- a row more

  beats-more : (m : ℤ) (x : Row) (rows : List Row) → (x ≢ Null → better (Int m) x ≡ true) → Beats m rows → Beats m (x ∷ rows)
  beats-more m x rows e beats zero low some = e some
  beats-more m x rows e beats (suc k) low some = beats k (omega arith) some

  unbeaten-more : (m : ℤ) (x : Row) (rows : List Row) → (x ≢ Null → better x (Int m) ≡ false) → Unbeaten m rows → Unbeaten m (x ∷ rows)
  unbeaten-more m x rows e unbeaten zero low some = e some
  unbeaten-more m x rows e unbeaten (suc k) low some = unbeaten k (omega arith) some

  -- the best row is found after a row that is null, or than which it is better
  found-behind : (x : Row) (b : ℤ) (rows : List Row) → (x ≢ Null → better (Int b) x ≡ true) → (x ≢ Null → better x (Int b) ≡ false) → FindsBest better rows (Int b) → FindsBest better (x ∷ rows) (Int b)
  found-behind x b rows e not found = record {
    place = suc found.place;
    is_row = found.is_row;
    is_best = record {
      within = omega (arith, found.is_best.within);
      present = found.is_best.present;
      best = subst (λ y. (k : ℕ) → k < suc (length rows) → row (x ∷ rows) k ≢ Null → better (row (x ∷ rows) k) y ≡ false) found.is_row (unbeaten-more b x rows not (λ k low some. ap (better (row rows k)) found.is_row ∙ found.is_best.best k low some));
      first = subst (λ y. (k : ℕ) → k < suc found.place → row (x ∷ rows) k ≢ Null → better y (row (x ∷ rows) k) ≡ true) found.is_row (before found);
    };
  }
    where
      before : (found : FindsBest better rows (Int b)) (k : ℕ) → k < suc found.place → row (x ∷ rows) k ≢ Null → better (Int b) (row (x ∷ rows) k) ≡ true
      before found zero low some = e some
      before found (suc k) low some = ap (λ y. better y (row rows k)) found.is_row ∙ found.is_best.first k (omega arith) some

  found-here : (v : ℤ) (rows : List Row) → Unbeaten v rows → FindsBest better (Int v ∷ rows) (Int v)
  found-here v rows unbeaten = record {
    place = 0;
    is_row = refl;
    is_best = record {
      within = omega arith;
      present = λ e. cc;
      best = unbeaten-more v (Int v) rows (λ some. irreflexive v) unbeaten;
      first = λ k low some. absurd (omega arith);
    };
  }

  module _ (n : ℤ) where
    abbrev best : List Row → ℤ
    best rows = folded (best_of better) n rows

    -- the best row is found, or n is better than all rows
    abbrev Stands : List Row → Type 0
    Stands rows = FindsBest better rows (Int (best rows)) ⊎ ((best rows ≡ n) × Beats n rows)

    step-null : (rows : List Row) → Stands rows → Stands (Null ∷ rows)
    step-null rows (inl found) =
        inl (found-behind Null (best rows) rows (λ some. absurd (some refl)) (λ some. absurd (some refl)) found)
    step-null rows (inr s) = inr (s.0, beats-more n Null rows (λ some. absurd (some refl)) s.1)

    step-number : (v : ℤ) (rows : List Row) (bit : Bool) → AreNumbers rows → better (Int (best rows)) (Int v) ≡ bit → Stands rows → Stands (Int v ∷ rows)
    step-number v rows true are e (inl found) =
        let is : best (Int v ∷ rows) ≡ best rows = ap (λ b. cond b (best rows) v) e in
        inl (subst (λ x. FindsBest better (Int v ∷ rows) (Int x)) (sym is) (found-behind (Int v) (best rows) rows (λ some. e) (λ some. law.one_way (best rows) v e) found))
    step-number v rows true are e (inr s) =
        let is : best (Int v ∷ rows) ≡ best rows = ap (λ b. cond b (best rows) v) e in
        inr (is ∙ s.0, beats-more n (Int v) rows (λ some. ap (λ x. better (Int x) (Int v)) (sym s.0) ∙ e) s.1)
    step-number v rows false are e (inl found) =
        let is : best (Int v ∷ rows) ≡ v = ap (λ b. cond b (best rows) v) e in
        let unbeaten : Unbeaten (best rows) rows = λ k low some. ap (better (row rows k)) found.is_row ∙ found.is_best.best k low some in
        inl (subst (λ x. FindsBest better (Int v ∷ rows) (Int x)) (sym is) (found-here v rows (unbeaten-through v (best rows) rows are e unbeaten)))
    step-number v rows false are e (inr s) =
        let is : best (Int v ∷ rows) ≡ v = ap (λ b. cond b (best rows) v) e in
        let f : better (Int n) (Int v) ≡ false = ap (λ x. better (Int x) (Int v)) (sym s.0) ∙ e in
        inl (subst (λ x. FindsBest better (Int v ∷ rows) (Int x)) (sym is) (found-here v rows (unbeaten-through v n rows are f (beaten-none n rows are s.1))))

    stands : (rows : List Row) → AreNumbers rows → Stands rows
    stands [] are = inr (refl, λ k low some. absurd (omega arith))
    stands (Null ∷ rows) are = step-null rows (stands rows are)
    stands (Int v ∷ rows) are = step-number v rows (better (Int (best rows)) (Int v)) are refl (stands rows are)
    stands (Truth x ∷ rows) are = absurd are
    stands (Bytes x ∷ rows) are = absurd are
    stands (Rows x ∷ rows) are = absurd are
    stands (Fields x ∷ rows) are = absurd are
    stands (Entry x ∷ rows) are = absurd are

    -- where n is a row, the best row is found
    pub best-found : (rows : List Row) (i : ℕ) → AreNumbers rows → i < length rows → row rows i ≡ Int n → FindsBest better rows (Int (best rows))
    best-found rows i are low e =
        ⊎_elim (λ found. found)
        (λ s.
        let beaten = ap (better (Int n)) (sym e) ∙ s.1 i low (λ null. let not = sym e ∙ null in cc) in
        let not = irreflexive n in cc)
        (stands rows are)

module _ {A : Type 0} (value : A → ℤ) (xs : List A) (mask : Option (List Bool)) (bits : HasBits (length xs) mask) where
  abbrev rows : List Row
  rows = rows_under mask (number_slots value xs)

  many : length rows ≡ length xs
  many =
      length-rows mask (number_slots value xs) (subst (λ (n : ℕ). HasBits n mask) (sym (length-slots value xs)) bits)
      ∙ length-slots value xs

  pub no-number : ((k : ℕ) → k < length xs → is_present mask k ≡ false) → NonePresent rows
  no-number absent k low =
      row-under mask (number_slots value xs) k
      ∙ ap (λ (b : Bool). kept b (row (number_slots value xs) k)) (absent k (omega (arith, low, many)))

  first-number : (i : ℕ) (x : A) → IsFirstPresent (length xs) mask i → x ≡ get_or xs i x → row rows i ≡ Int (value x)
  first-number i x first e =
      row-under mask (number_slots value xs) i
      ∙ ap₂ kept first.present (get_or-map (λ (y : A). Int (value y)) xs i x Null first.within ∙ ap (λ (y : A). Int (value y)) (sym e))

  -- the present numbers folded from the first one on are the best row
  pub found-from : (better : Row → Row → Bool) (law : Prefers Int better) (i : ℕ) (x : A) (found : ℤ) → IsFirstPresent (length xs) mask i → x ≡ get_or xs i x → found ≡ folded (best_of better) (value x) rows → FindsBest better rows (Int found)
  found-from better law i x found first e is =
      subst (λ (m : ℤ). FindsBest better rows (Int m)) (sym is)
      (best-found better law (value x) rows i (rows-numbers value mask xs) (omega (arith, first.within, many)) (first-number i x first e))

-- the same of equal numbers and an equal validity
module _ {A : Type 0} (value : A → ℤ) (xs ys : List A) (mask other : Option (List Bool)) (bits : HasBits (length ys) other) (same_numbers : xs ≡ ys) (same_mask : mask ≡ other) where
  own-bits : HasBits (length xs) mask
  own-bits =
      subst (λ (m : Option (List Bool)). HasBits (length xs) m) (sym same_mask)
      (subst (λ (zs : List A). HasBits (length zs) other) (sym same_numbers) bits)

  same-rows : rows_under mask (number_slots value xs) ≡ rows_under other (number_slots value ys)
  same-rows =
      ap₂ (λ (m : Option (List Bool)) (zs : List A). rows_under m (number_slots value zs)) same_mask same_numbers

  pub found-in : (better : Row → Row → Bool) (law : Prefers Int better) (i : ℕ) (x : A) (found : ℤ) → IsFirstPresent (length xs) mask i → x ≡ get_or xs i x → found ≡ folded (best_of better) (value x) (rows_under mask (number_slots value xs)) → FindsBest better (rows_under other (number_slots value ys)) (Int found)
  found-in better law i x found first e is =
      subst (λ (rs : List Row). FindsBest better rs (Int found)) same-rows
      (found-from value xs mask own-bits better law i x found first e is)

  pub none-in : ((k : ℕ) → k < length xs → is_present mask k ≡ false) → NonePresent (rows_under other (number_slots value ys))
  none-in absent =
      subst (λ (rs : List Row). NonePresent rs) same-rows (no-number value xs mask own-bits absent)

-- operators that join alike fold alike
module _ (joined other : ℤ → ℤ → ℤ) (alike : (m n : ℤ) → joined m n ≡ other m n) (n : ℤ) where
  row-alike : (x : Row) (a b : ℤ) → a ≡ b → row_joined joined x a ≡ row_joined other x b
  row-alike (Int v) a b e = ap (joined v) e ∙ alike v b
  row-alike Null a b e = e
  row-alike (Truth x) a b e = e
  row-alike (Bytes x) a b e = e
  row-alike (Rows x) a b e = e
  row-alike (Fields x) a b e = e
  row-alike (Entry x) a b e = e

  pub folded-alike : (rows : List Row) → folded joined n rows ≡ folded other n rows
  folded-alike [] = refl
  folded-alike (x ∷ rows) = row-alike x (folded joined n rows) (folded other n rows) (folded-alike rows)
