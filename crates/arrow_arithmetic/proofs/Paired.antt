-- Numbers that are computed of the elements of two lists.
use Rattle.std.proofs.Common.{◌≡◌, ◌<◌, ◌∙◌, ℕ, zero, suc, List, [], ◌∷◌, length, get_or, sym, ap, ap₂, arith}
use Rattle.std.specs.Prelude.{Some, slice_get}
use Rattle.std.specs.Simd.Lanes.{zip2}
use Rattle.std.proofs.lemmas.Option.{slice_get-get_or}
use Rattle.std.proofs.lemmas.Simd.{get_or-zip2}

-- a place of the results is one of both lists
pub paired-left : {A B C : Type 0} (f : A → B → C) (xs : List A) (ys : List B) (i : ℕ) → i < length (zip2 f xs ys) → i < length xs
paired-left f [] ys i low = absurd (omega arith)
paired-left f (x ∷ xs) [] i low = absurd (omega arith)
paired-left f (x ∷ xs) (y ∷ ys) zero low = omega arith
paired-left f (x ∷ xs) (y ∷ ys) (suc i) low =
    let below = paired-left f xs ys i (omega arith) in omega arith

pub paired-right : {A B C : Type 0} (f : A → B → C) (xs : List A) (ys : List B) (i : ℕ) → i < length (zip2 f xs ys) → i < length ys
paired-right f [] ys i low = absurd (omega arith)
paired-right f (x ∷ xs) [] i low = absurd (omega arith)
paired-right f (x ∷ xs) (y ∷ ys) zero low = omega arith
paired-right f (x ∷ xs) (y ∷ ys) (suc i) low =
    let below = paired-right f xs ys i (omega arith) in omega arith

pub paired-at : {A B C : Type 0} (f : A → B → C) (xs : List A) (ys : List B) (i : ℕ) (x : A) (y : B) (z : C) → i < length (zip2 f xs ys)
    → x ≡ get_or xs i x → y ≡ get_or ys i y → z ≡ f x y → slice_get (zip2 f xs ys) i ≡ Some z
paired-at f xs ys i x y z low left right is =
    slice_get-get_or (zip2 f xs ys) i z low
    ∙ ap Some (get_or-zip2 f xs ys i x y z (paired-left f xs ys i low) (paired-right f xs ys i low) ∙ ap₂ f (sym left) (sym right) ∙ sym is)
