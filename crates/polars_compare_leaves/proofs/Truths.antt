-- Tests of truth values, as logic on bits.
use Rattle.std.proofs.Common.{◌≡◌, Bool, true, false, not, ◌&&◌, ◌||◌, List, [], ◌∷◌, map, length, replicate, refl, ap₂}
use Rattle.std.specs.Simd.Lanes.{zip2}
use Rattle.polars_arrays_flat.specs.Row.{Row, Truth}
use Rattle.polars_arrays_flat.specs.StoredRows.{truth_slots}

-- the sides exchanged
pub zip2-turned : {A B C : Type 0} (f : B → A → C) (g : A → B → C) → ((x : A) (y : B) → f y x ≡ g x y) → (xs : List A) (ys : List B) → zip2 f ys xs ≡ zip2 g xs ys
zip2-turned f g law [] [] = refl
zip2-turned f g law [] (y ∷ ys) = refl
zip2-turned f g law (x ∷ xs) [] = refl
zip2-turned {C = C} f g law (x ∷ xs) (y ∷ ys) = ap₂ (λ (c : C) (cs : List C). c ∷ cs) (law x y) (zip2-turned f g law xs ys)

-- what a test of rows answers at each truth value, as bits: all true, the values, their contraries, or all false
module _ (test : Row → Bool) where
  pub all-pass : true ≡ test (Truth true) → true ≡ test (Truth false) → (xs : List Bool) → replicate (length xs) true ≡ map test (truth_slots xs)
  all-pass t f [] = refl
  all-pass t f (true ∷ xs) = ap₂ (λ (b : Bool) (bs : List Bool). b ∷ bs) t (all-pass t f xs)
  all-pass t f (false ∷ xs) = ap₂ (λ (b : Bool) (bs : List Bool). b ∷ bs) f (all-pass t f xs)

  pub true-passes : true ≡ test (Truth true) → false ≡ test (Truth false) → (xs : List Bool) → xs ≡ map test (truth_slots xs)
  true-passes t f [] = refl
  true-passes t f (true ∷ xs) = ap₂ (λ (b : Bool) (bs : List Bool). b ∷ bs) t (true-passes t f xs)
  true-passes t f (false ∷ xs) = ap₂ (λ (b : Bool) (bs : List Bool). b ∷ bs) f (true-passes t f xs)

  pub false-passes : false ≡ test (Truth true) → true ≡ test (Truth false) → (xs : List Bool) → map not xs ≡ map test (truth_slots xs)
  false-passes t f [] = refl
  false-passes t f (true ∷ xs) = ap₂ (λ (b : Bool) (bs : List Bool). b ∷ bs) t (false-passes t f xs)
  false-passes t f (false ∷ xs) = ap₂ (λ (b : Bool) (bs : List Bool). b ∷ bs) f (false-passes t f xs)

  pub none-passes : false ≡ test (Truth true) → false ≡ test (Truth false) → (xs : List Bool) → replicate (length xs) false ≡ map test (truth_slots xs)
  none-passes t f [] = refl
  none-passes t f (true ∷ xs) = ap₂ (λ (b : Bool) (bs : List Bool). b ∷ bs) t (none-passes t f xs)
  none-passes t f (false ∷ xs) = ap₂ (λ (b : Bool) (bs : List Bool). b ∷ bs) f (none-passes t f xs)

-- one without the other, and one or not the other, from either side
pub and_not-turned : (x y : Bool) → (y && not x) ≡ (not x && y)
and_not-turned true true = refl
and_not-turned true false = refl
and_not-turned false true = refl
and_not-turned false false = refl

pub or_not-turned : (x y : Bool) → (y || not x) ≡ not (not y && x)
or_not-turned true true = refl
or_not-turned true false = refl
or_not-turned false true = refl
or_not-turned false false = refl
