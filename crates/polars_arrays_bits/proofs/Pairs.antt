-- The elements of two lists, tested place by place.
use Rattle.std.proofs.Common.{◌≡◌, ◌<◌, ℕ, zero, suc, Bool, false, List, [], ◌∷◌, length, get_or, arith, sym, ap₂, ◌∙◌}
use Rattle.std.proofs.lemmas.Simd.{get_or-zip2}
use Rattle.std.specs.Simd.Lanes.{zip2}

-- a place in a zip is one in the left list
pub left_place : {X Y Z : Type 0} (f : X → Y → Z) (xs : List X) (ys : List Y) (i : ℕ) → i < length (zip2 f xs ys) → i < length xs
left_place f [] ys i h = h
left_place f (x ∷ xs) [] i h = absurd (omega arith)
left_place f (x ∷ xs) (y ∷ ys) zero h = omega arith
left_place f (x ∷ xs) (y ∷ ys) (suc i) h = let lt : i < length xs = left_place f xs ys i (omega arith) in omega arith

-- and one in the right list
pub right_place : {X Y Z : Type 0} (f : X → Y → Z) (xs : List X) (ys : List Y) (i : ℕ) → i < length (zip2 f xs ys) → i < length ys
right_place f [] ys i h = absurd (omega arith)
right_place f (x ∷ xs) [] i h = h
right_place f (x ∷ xs) (y ∷ ys) zero h = omega arith
right_place f (x ∷ xs) (y ∷ ys) (suc i) h = let lt : i < length ys = right_place f xs ys i (omega arith) in omega arith

-- the result of a test of the elements at a place is the bit there
pub pair_at :
    {X Y : Type 0} (f : X → Y → Bool) (xs : List X) (ys : List Y) (i : ℕ) (x : X) (y : Y) (answer : Bool) → i < length (zip2 f xs ys) →
    x ≡ get_or xs i x → y ≡ get_or ys i y → answer ≡ f x y → answer ≡ get_or (zip2 f xs ys) i false
pair_at f xs ys i x y answer lt left right is =
    is ∙ ap₂ f left right ∙ sym (get_or-zip2 f xs ys i x y false (left_place f xs ys i lt) (right_place f xs ys i lt))
