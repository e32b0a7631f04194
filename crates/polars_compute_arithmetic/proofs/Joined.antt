-- Two validities joined.
use Rattle.std.proofs.Common.{◌≡◌, ◌∙◌, ◌&&◌, ℕ, Bool, List, [], ◌∷◌, length, sym, ap, subst, arith, refl, suc}
use Rattle.std.specs.Prelude.{Option, Some, None}
use Rattle.std.specs.Simd.Lanes.{zip2}
use Rattle.std.specs.List.{refill, length_refill}
use Rattle.std.proofs.lemmas.Slice.Zip.{AllZip-long}
use Rattle.polars_arrays_flat.specs.Validity.{HasBits}
use Rattle.polars_compute_arithmetic.specs.Maps.{AllPairs, joined_validity}
use Rattle.polars_compute_arithmetic.proofs.Zips.{length_zip}

pub length-zip2 : {A B C : Type 0} (f : A → B → C) (xs : List A) (ys : List B) → length ys ≡ length xs → length (zip2 f xs ys) ≡ length xs
length-zip2 f [] ys e = refl
length-zip2 f (x ∷ xs) [] e = absurd (omega arith)
length-zip2 f (x ∷ xs) (y ∷ ys) e = ap suc (length-zip2 f xs ys (omega arith))

-- it has equally many bits
pub joined-bits : (n m : ℕ) (left right : Option (List Bool)) → m ≡ n → HasBits n left → HasBits m right → HasBits n (joined_validity left right)
joined-bits n m None None e hl hr = tt
joined-bits n m None (Some r) e hl hr = hr ∙ e
joined-bits n m (Some l) None e hl hr = hl
joined-bits n m (Some l) (Some r) e hl hr = length-zip2 ◌&&◌ l r (hr ∙ e ∙ sym hl) ∙ hl

-- there are as many results as values
pub length-pairs : {A B C : Type 0} (Answers : A → B → C → Type 0) (xs : List A) (ys : List B) (zs : List C) → length ys ≡ length xs → AllPairs Answers xs ys zs → length zs ≡ length xs
length-pairs Answers xs ys zs e h = AllZip-long _ _ _ h ∙ length_zip xs ys e

-- it has a bit for each value, after all values are overwritten
pub joined-bits_over : {A : Type 0} (n m : ℕ) (values written : List A) (left right joined : Option (List Bool)) → length values ≡ n → m ≡ n → HasBits n left → HasBits m right → joined ≡ joined_validity left right → HasBits (length (refill (length values) values written)) joined
joined-bits_over n m values written left right joined long e hl hr is =
    let k : length values ≡ length (refill (length values) values written) = length_refill (length values) values written refl in
    subst (λ (i : ℕ). HasBits i joined) (sym long ∙ k) (rw is (joined-bits n m left right e hl hr))
