-- "Less" and "greater" are preferences.
use Rattle.std.specs.Prelude.{◌≡◌, ℤ, Bool, true, false, cond, int_lt, refl}
use Rattle.std.proofs.Common.{sym, ap, ◌∙◌}
use Rattle.std.specs.Cmp.{IsTotalOrder}
use Rattle.std.specs.Cmp.Lexicographic.{slice_cmp}
use Rattle.std.specs.Ordering.{int_cmp, nat_cmp, is_lt, ordering_reverse}
use Rattle.std.specs.declared.cmp.Ordering.{Ordering}
use Rattle.std.specs.declared.cmp.Ordering.TheVariants.{Less, Equal, Greater}
use Rattle.std.proofs.lemmas.Cmp.{int_cmp_total, nat_list_cmp_total}
use Rattle.polars_arrays_flat.specs.Row.{Bytes, Int}
use Rattle.polars_compare_leaves.specs.Order.{row_less, row_greater}
use Rattle.polars_compare_extremes.specs.Preference.{Prefers}

is_less : (o : Ordering) → is_lt o ≡ true → o ≡ Less
is_less Less h = refl
is_less Equal h = cc
is_less Greater h = cc

module _ {A : Type 0} {R : A → A → Ordering} (total : IsTotalOrder R) where
  -- if x is less than y, y is not less than x
  one_way : (x y : A) → is_lt (R x y) ≡ true → is_lt (R y x) ≡ false
  one_way x y h = ap is_lt (total.antisymm y x ∙ ap ordering_reverse (is_less (R x y) h))

  -- if y is less than x, and z is not less than x, then y is less than z
  least_passes : (x y z : A) (o : Ordering) → R z x ≡ o → is_lt (R y x) ≡ true → is_lt o ≡ false
      → is_lt (R y z) ≡ true
  least_passes x y z Less e h g = cc
  least_passes x y z Equal e h g =
      ap is_lt (total.antisymm y z ∙ ap ordering_reverse
      (total.congr z x y e ∙ total.antisymm x y ∙ ap ordering_reverse (is_less (R y x) h)))
  least_passes x y z Greater e h g =
      ap is_lt (total.trans y x z (is_less (R y x) h) (total.antisymm x z ∙ ap ordering_reverse e))

  -- if y is greater than x, and z is not greater than x, then y is greater than z
  greatest_passes : (x y z : A) (o : Ordering) → R x z ≡ o → is_lt (R x y) ≡ true → is_lt o ≡ false
      → is_lt (R z y) ≡ true
  greatest_passes x y z Less e h g = cc
  greatest_passes x y z Equal e h g = ap is_lt (sym (total.congr x z y e) ∙ is_less (R x y) h)
  greatest_passes x y z Greater e h g =
      ap is_lt (total.trans z x y (total.antisymm z x ∙ ap ordering_reverse e) (is_less (R x y) h))

pub less_prefers : Prefers Bytes row_less
less_prefers = record {
  one_way = λ xs ys h. one_way nat_list_cmp_total xs ys h;
  passes = λ xs ys zs h g. least_passes nat_list_cmp_total xs ys zs (slice_cmp nat_cmp zs xs) refl h
      g;
}

pub greater_prefers : Prefers Bytes row_greater
greater_prefers = record {
  one_way = λ xs ys h. one_way nat_list_cmp_total ys xs h;
  passes = λ xs ys zs h g. greatest_passes nat_list_cmp_total xs ys zs (slice_cmp nat_cmp xs zs)
      refl h g;
}

lt-cond : (a b : Bool) → is_lt (cond a Less (cond b Greater Equal)) ≡ a
lt-cond true b = refl
lt-cond false true = refl
lt-cond false false = refl

is-int_lt : (m n : ℤ) → is_lt (int_cmp m n) ≡ int_lt m n
is-int_lt m n = lt-cond (int_lt m n) (int_lt n m)

pub less_prefers-numbers : Prefers Int row_less
less_prefers-numbers = record {
  one_way = λ m n h. sym (is-int_lt n m) ∙ one_way int_cmp_total m n (is-int_lt m n ∙ h);
  passes = λ l m n h g. sym (is-int_lt m n) ∙ least_passes int_cmp_total l m n (int_cmp n l) refl
      (is-int_lt m l ∙ h) (is-int_lt n l ∙ g);
}

pub greater_prefers-numbers : Prefers Int row_greater
greater_prefers-numbers = record {
  one_way = λ m n h. sym (is-int_lt m n) ∙ one_way int_cmp_total n m (is-int_lt n m ∙ h);
  passes = λ l m n h g. sym (is-int_lt n m) ∙ greatest_passes int_cmp_total l m n (int_cmp l n) refl
      (is-int_lt l m ∙ h) (is-int_lt l n ∙ g);
}
