-- By a test of leaves that is equality, rows that are the same are equal trees, and equal trees are the same.
use Rattle.std.proofs.Common.{◌≡◌, ◌&&◌, Bool, true, false, refl, ap, ap₂, subst}
use Rattle.std.proofs.lemmas.Bool.Decides.{Decides-int_eq}
use Rattle.std.proofs.lemmas.Slice.Eq.{bytes_eq-Decides}
use Rattle.std.specs.Cmp.{booleans_Decides}
use Rattle.polars_arrays_flat.specs.Row.{Row, Null, Int, Truth, Bytes, Rows, Fields, Entry, RowList, no_rows, more_rows}
use Rattle.polars_compare_leaves.specs.Sameness.{same, same_rows, same_leaf}
use Rattle.polars_compare_nested.specs.Headline.{EqualityTellsTrees, IsEquality}

both : (x y : Bool) → x && y ≡ true → (x ≡ true) × (y ≡ true)
both true y h = (refl, h)
both false y h = cc

module _ (agree : Row → Row → Bool) (equality : IsEquality agree) where
  mutual
    same-equal : (x y : Row) → same agree x y ≡ true → x ≡ y
    same-equal Null Null h = refl
    same-equal (Int m) (Int n) h = ap Int ((equality.numbers m n).0 h)
    same-equal (Truth a) (Truth b) h = ap Truth ((equality.truth_values a b).0 h)
    same-equal (Bytes xs) (Bytes ys) h = ap Bytes ((equality.byte_strings xs ys).0 h)
    same-equal (Rows xs) (Rows ys) h = ap Rows (same_rows-equal xs ys h)
    same-equal (Fields xs) (Fields ys) h = ap Fields (same_rows-equal xs ys h)
    same-equal (Entry x) (Entry y) h = ap Entry (same-equal x y h)
    same-equal _ _ h = cc

    same_rows-equal : (xs ys : RowList) → same_rows agree xs ys ≡ true → xs ≡ ys
    same_rows-equal no_rows no_rows h = refl
    same_rows-equal (more_rows x xs) (more_rows y ys) h =
        let parts = both _ _ h in
        ap₂ more_rows (same-equal x y parts.0) (same_rows-equal xs ys parts.1)
    same_rows-equal _ _ h = cc

  mutual
    same-self : (x : Row) → same agree x x ≡ true
    same-self Null = refl
    same-self (Int m) = (equality.numbers m m).1 refl
    same-self (Truth a) = (equality.truth_values a a).1 refl
    same-self (Bytes xs) = (equality.byte_strings xs xs).1 refl
    same-self (Rows xs) = same_rows-self xs
    same-self (Fields xs) = same_rows-self xs
    same-self (Entry x) = same-self x

    same_rows-self : (xs : RowList) → same_rows agree xs xs ≡ true
    same_rows-self no_rows = refl
    same_rows-self (more_rows x xs) = rw (same-self x, same_rows-self xs) refl

-- rows are the same exactly where they are the same tree
pub equality-trees : EqualityTellsTrees
equality-trees agree equality x y = (
  same-equal agree equality x y,
  (λ e. subst (λ (z : Row). same agree x z ≡ true) e (same-self agree equality x)),
)

-- the test of Steps is equality
pub steps-equality : IsEquality same_leaf
steps-equality = record {
  numbers = λ m n. Decides-int_eq m n;
  truth_values = λ a b. booleans_Decides a b;
  byte_strings = λ xs ys. bytes_eq-Decides xs ys;
}
