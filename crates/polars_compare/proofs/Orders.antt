-- What the comparisons of numbers, truth values and bytes say of rows.
use Rattle.std.proofs.Common.{◌≡◌, ◌↔◌, ◌∙◌, ◌&&◌, ◌||◌, ℤ, Bool, true, false, not, cond, IsTrue, refl, sym, ap, inl, inr, Ordering, Less, Equal, Greater}
use Rattle.std.specs.Prelude.{int_lt}
use Rattle.std.specs.Bool.{beq}
use Rattle.std.specs.Cmp.{IsTotalOrder, bool_cmp_total}
use Rattle.std.specs.Cmp.Lexicographic.{slice_cmp}
use Rattle.std.specs.Ordering.{ordering_reverse, is_lt, is_eq, nat_cmp, int_cmp, bool_cmp}
use Rattle.std.proofs.lemmas.Cmp.{int_cmp_total, nat_list_cmp_total}
use Rattle.std.proofs.lemmas.Map.Text.{is_eq-slice_cmp}
use Rattle.polars_arrays_flat.specs.Row.{Row, Int, Truth, Bytes}
use Rattle.polars_compare_leaves.specs.Order.{row_greater, row_less}
use Rattle.polars_compare_leaves.specs.Sameness.{same_row}
use Rattle.polars_compare.specs.OrderLaws.{ExactlyOne, OneOfThree, AtMostIsLessOrSame, LessIsTransitive}
use Rattle.polars_compare.proofs.Trees.{same-told}

-- two answers of a comparison, each the reverse of the other, of which the first is `Equal` where E holds
reversed-one : {E : Type 0} (o p : Ordering) → o ≡ ordering_reverse p → IsTrue (is_eq o) ↔ E
    → ExactlyOne (IsTrue (is_lt o)) E (IsTrue (is_lt p))
reversed-one Less Greater e d = record {
  some = inl refl;
  not_first_two = λ l t. let s = d.1 t in cc;
  not_last_two = λ t g. cc;
  not_outer_two = λ l g. cc;
}
reversed-one Equal Equal e d = record {
  some = inr (inl (d.0 refl));
  not_first_two = λ l t. cc;
  not_last_two = λ t g. cc;
  not_outer_two = λ l g. cc;
}
reversed-one Greater Less e d = record {
  some = inr (inr refl);
  not_first_two = λ l t. cc;
  not_last_two = λ t g. let s = d.1 t in cc;
  not_outer_two = λ l g. cc;
}
reversed-one _ _ e d = cc

lt-is : (o : Ordering) → IsTrue (is_lt o) → o ≡ Less
lt-is Less h = refl
lt-is _ h = cc

-- rows of one sort, which a total order compares
module _ {K : Type 0} (R : K → K → Ordering) (total : IsTotalOrder R) (put : K → Row)
    (less : (x y : K) → row_less (put x) (put y) ≡ is_lt (R x y))
    (same : (x y : K) → same_row (put x) (put y) ≡ is_eq (R x y)) where
  sort-one : (x y : K) → ExactlyOne (IsTrue (row_less (put x) (put y))) (put x ≡ put y) (IsTrue (row_less (put y) (put x)))
  sort-one x y =
      let told = same-told (put x) (put y) in
      rw (less x y, less y x)
      (reversed-one (R x y) (R y x) (total.antisymm x y) ((λ s. told.0 (same x y ∙ s)), (λ e. sym (same x y) ∙ told.1 e)))

  sort-transitive : (x y z : K) → IsTrue (row_less (put x) (put y)) → IsTrue (row_less (put y) (put z)) → IsTrue (row_less (put x) (put z))
  sort-transitive x y z h k =
      less x z
      ∙ ap is_lt (total.trans x y z (lt-is (R x y) (sym (less x y) ∙ h)) (lt-is (R y z) (sym (less y z) ∙ k)))

-- the comparison of two numbers that `a` and `b` make, where they say whether the one is less and the other
first-is_lt : (a b : Bool) → a ≡ is_lt (cond a Less (cond b Greater Equal))
first-is_lt true b = refl
first-is_lt false true = refl
first-is_lt false false = refl

less-truth : (a b : Bool) → not a && b ≡ is_lt (bool_cmp a b)
less-truth true true = refl
less-truth true false = refl
less-truth false true = refl
less-truth false false = refl

same-truth : (a b : Bool) → beq a b ≡ is_eq (bool_cmp a b)
same-truth true true = refl
same-truth true false = refl
same-truth false true = refl
same-truth false false = refl

less-int : (m n : ℤ) → row_less (Int m) (Int n) ≡ is_lt (int_cmp m n)
less-int m n = first-is_lt (int_lt m n) (int_lt n m)

pub order-one : OneOfThree
order-one (Int m) (Int n) h = sort-one int_cmp int_cmp_total Int less-int (λ x y. refl) m n
order-one (Truth a) (Truth b) h = sort-one bool_cmp bool_cmp_total Truth less-truth same-truth a b
order-one (Bytes xs) (Bytes ys) h =
    sort-one (slice_cmp nat_cmp) nat_list_cmp_total Bytes (λ x y. refl) (λ x y. sym (is_eq-slice_cmp x y)) xs ys
order-one _ _ h = cc

pub order-transitive : LessIsTransitive
order-transitive (Int m) (Int n) (Int k) h j =
    sort-transitive int_cmp int_cmp_total Int less-int (λ x y. refl) m n k h j
order-transitive (Truth a) (Truth b) (Truth c) h j =
    sort-transitive bool_cmp bool_cmp_total Truth less-truth same-truth a b c h j
order-transitive (Bytes xs) (Bytes ys) (Bytes zs) h j =
    sort-transitive (slice_cmp nat_cmp) nat_list_cmp_total Bytes (λ x y. refl) (λ x y. sym (is_eq-slice_cmp x y)) xs ys zs h j
order-transitive _ _ _ h j = cc

-- if exactly one of three bits is true, the last is false if one of the others is true
one-of-bits : {E : Type 0} (less same greater : Bool) → ExactlyOne (IsTrue less) E (IsTrue greater) → IsTrue same ↔ E → not greater ≡ (less || same)
one-of-bits true same true o d = absurd (o.not_outer_two refl refl)
one-of-bits true same false o d = refl
one-of-bits false true true o d = absurd (o.not_last_two (d.0 refl) refl)
one-of-bits false true false o d = refl
one-of-bits false false true o d = refl
one-of-bits false false false o d = elim o.some [
  | inl l ↦ sym l
  | inr s ↦ elim s [ inl e ↦ sym (d.1 e) | inr g ↦ sym g ]
]

pub order-at_most : AtMostIsLessOrSame
order-at_most x y h =
    one-of-bits (row_less x y) (same_row x y) (row_greater x y) (order-one x y h) (same-told x y)
