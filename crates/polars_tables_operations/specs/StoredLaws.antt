-- Values mapped to rows are stored as values; numbers and truth values are such values.
use Rattle.std.specs.Prelude.{◌≡◌, ◌<◌, ◌↔◌, ℕ, zero, suc, ℤ, Bool, IsTrue, List, [], ◌∷◌, length}
use Rattle.std.specs.Prelude.{map, refl}
use Rattle.std.proofs.Common.{◌∙◌, sym, ap, arith}
use Rattle.std.proofs.lemmas.Bool.Decides.{Decides-int_eq}
use Rattle.std.proofs.lemmas.List.{length-map}
use Rattle.std.specs.Cmp.{booleans_Decides}
use Rattle.polars_arrays_flat.specs.Row.{Row, Int, Truth}
use Rattle.polars_arrays_flat.specs.StoredRows.{row}
use Rattle.polars_compare_leaves.specs.Sameness.{same_row}
use Rattle.polars_tables_operations.specs.Stored.{AreValues, StoresValues}

stored-at : {A : Type 0} (f : A → Row) (xs : List A) (i : ℕ) → i < length (map f xs) → (x : A)
    × (row (map f xs) i ≡ f x)
stored-at f [] i h = absurd (omega arith)
stored-at f (x ∷ xs) zero h = (x, refl)
stored-at f (x ∷ xs) (suc i) h = stored-at f xs i (omega arith)

-- values mapped to rows are stored as values
pub stores-map : {A : Type 0} (f : A → Row) (xs : List A) → StoresValues f (map f xs)
stores-map f xs = record { at_each = stored-at f xs }

same_int : (m n : ℤ) → IsTrue (same_row (Int m) (Int n)) ↔ (Int m ≡ Int n)
same_int m n =
    let d = Decides-int_eq m n in
    ((λ t. ap Int (d.0 t)), (λ e. let f : m ≡ n = cc in d.1 f))

same_truth : (a b : Bool) → IsTrue (same_row (Truth a) (Truth b)) ↔ (Truth a ≡ Truth b)
same_truth a b =
    let d = booleans_Decides a b in
    ((λ t. ap Truth (d.0 t)), (λ e. let f : a ≡ b = cc in d.1 f))

pub numbers_are_values : {A : Type 0} (value : A → ℤ) → AreValues (λ x. Int (value x))
numbers_are_values value = record {
  present = λ x. refl;
  left_null = λ x. refl;
  right_null = λ x. refl;
  same = λ x y. same_int (value x) (value y);
}

pub truths_are_values : AreValues Truth
truths_are_values = record {
  present = λ x. refl;
  left_null = λ x. refl;
  right_null = λ x. refl;
  same = same_truth;
}

-- the number of stored rows is that of stored values
pub as_long : {A : Type 0} (f : A → Row) (xs ys : List A) → length (map f xs) ≡ length (map f ys)
    → length xs ≡ length ys
as_long f xs ys e = sym (length-map xs f) ∙ e ∙ length-map ys f
