-- The better of two numbers is an operator for folds (`Folds`), which may start with any number.
use Rattle.std.specs.Prelude.{◌≡◌, ℤ, Bool, true, false, cond, int_lt, refl}
use Rattle.std.specs.declared.cmp.Ordering.TheVariants.{Less, Equal, Greater}
use Rattle.std.proofs.Common.{sym, ap, ◌∙◌}
use Rattle.std.proofs.lemmas.Cmp.{int_ranked}
use Rattle.polars_arrays_flat.specs.Row.{Row, Int}
use Rattle.polars_compute_reductions.specs.Folds.{Folds}
use Rattle.polars_compare_leaves.specs.Order.{row_less, row_greater}
use Rattle.polars_compare_extremes.specs.BestNumber.{best_of}
use Rattle.polars_compare_extremes.specs.Preference.{Prefers}
use Rattle.polars_compare_extremes.specs.PreferenceLaws.{greater_prefers-numbers}
use Rattle.polars_compare_extremes.specs.PreferenceLaws.{less_prefers-numbers}

pub refuted : (bit : Bool) → (bit ≡ true → ⊥) → bit ≡ false
refuted true h = absurd (h refl)
refuted false h = refl

cond-same : (bit : Bool) (n : ℤ) → cond bit n n ≡ n
cond-same true n = refl
cond-same false n = refl

module _ (better : Row → Row → Bool) (law : Prefers Int better)
    (same : (m n : ℤ) → better (Int m) (Int n) ≡ false → better (Int n) (Int m) ≡ false → m ≡ n)
  where
    abbrev best : ℤ → ℤ → ℤ
    best = best_of better

    order-by : (m n : ℤ) (p q : Bool) → better (Int n) (Int m) ≡ p → better (Int m) (Int n) ≡ q
        → best m n ≡ best n m
    order-by m n true true e f = let not = law.one_way n m e in cc
    order-by m n true false e f = ap (λ b. cond b n m) e ∙ sym (ap (λ b. cond b m n) f)
    order-by m n false true e f = ap (λ b. cond b n m) e ∙ sym (ap (λ b. cond b m n) f)
    order-by m n false false e f = ap
        (λ b. cond b n m) e ∙ same m n f e ∙ sym (ap (λ b. cond b m n) f)

    -- if b is better than a, and c is better than b, then c is better than a
    through : (a b c : ℤ) → better (Int b) (Int a) ≡ true → better (Int c) (Int b) ≡ true
        → better (Int c) (Int a) ≡ true
    through a b c e f = law.passes b c a f (law.one_way b a e)

    -- if b is not better than a, and c is not better than b, then c is not better than a
    not-through : (a b c : ℤ) → better (Int b) (Int a) ≡ false → better (Int c) (Int b) ≡ false
        → better (Int c) (Int a) ≡ false
    not-through a b c e f = refuted (better (Int c) (Int a))
        (λ g. let h = law.passes a c b g e in cc)

    groups-by : (a b c : ℤ) (p q : Bool) → better (Int b) (Int a) ≡ p → better (Int c) (Int b) ≡ q
        → best (best a b) c ≡ best a (best b c)
    groups-by a b c true true e f =
        ap (λ x. best (cond x b a) c) e
        ∙ ap (λ x. cond x c b) f
        ∙ sym (ap (λ x. best a (cond x c b)) f ∙ ap (λ x. cond x c a) (through a b c e f))
    groups-by a b c true false e f =
        ap (λ x. best (cond x b a) c) e
        ∙ ap (λ x. cond x c b) f
        ∙ sym (ap (λ x. best a (cond x c b)) f ∙ ap (λ x. cond x b a) e)
    groups-by a b c false true e f =
        ap (λ x. best (cond x b a) c) e
        ∙ sym (ap (λ x. best a (cond x c b)) f)
    groups-by a b c false false e f =
        ap (λ x. best (cond x b a) c) e
        ∙ ap (λ x. cond x c a) (not-through a b c e f)
        ∙ sym (ap (λ x. best a (cond x c b)) f ∙ ap (λ x. cond x b a) e)

    pub best_folds : (first : ℤ) → Folds best first
    best_folds first = record {
      any_groups = λ a b c. groups-by a b c (better (Int b) (Int a)) (better (Int c) (Int b)) refl
          refl;
      any_order = λ a b. order-by a b (better (Int b) (Int a)) (better (Int a) (Int b)) refl refl;
      any_times = cond-same (better (Int first) (Int first)) first;
    }

-- two whole numbers are equal if neither is less
neither_less : (m n : ℤ) → int_lt m n ≡ false → int_lt n m ≡ false → m ≡ n
neither_less m n e f =
    int_ranked m n Equal
    (sym (ap (λ b. cond b Less (cond (int_lt n m) Greater Equal)) e ∙ ap
    (λ b. cond b Greater Equal) f))

pub least_folds : (first : ℤ) → Folds (best_of row_less) first
least_folds first = best_folds row_less less_prefers-numbers neither_less first

pub greatest_folds : (first : ℤ) → Folds (best_of row_greater) first
greatest_folds first = best_folds row_greater greater_prefers-numbers
    (λ m n e f. neither_less m n f e) first
