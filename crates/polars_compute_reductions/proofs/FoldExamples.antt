-- Worked examples of the definitions: the check computes both sides of each.
use Rattle.std.specs.Prelude.{◌≡◌, ◌+ℤ◌, pos, true, false, [], ◌∷◌, Some, None, refl}
use Rattle.polars_arrays_flat.specs.Row.{Null, Int, Truth}
use Rattle.polars_compute_reductions.specs.Folds.{folded, folded_if_any, none_present, number_or, row_joined}

joined-number : row_joined ◌+ℤ◌ (Int (pos 2)) (pos 3) ≡ pos 5
joined-number = refl

joined-null : row_joined ◌+ℤ◌ Null (pos 3) ≡ pos 3
joined-null = refl

folded-sum : folded ◌+ℤ◌ (pos 0) (Int (pos 2) ∷ Null ∷ Int (pos 3) ∷ []) ≡ pos 5
folded-sum = refl

number-of-null : number_or (pos 7) Null ≡ pos 7
number-of-null = refl

all-null : none_present (Null ∷ Null ∷ []) ≡ true
all-null = refl

one-present : none_present (Null ∷ Truth false ∷ []) ≡ false
one-present = refl

sum-if-any : folded_if_any ◌+ℤ◌ (pos 0) (Null ∷ Int (pos 4) ∷ []) ≡ Some (pos 4)
sum-if-any = refl

no-sum : folded_if_any ◌+ℤ◌ (pos 0) (Null ∷ []) ≡ None
no-sum = refl
