-- Ownership of the values of a quotient by a number.
use Rattle.std.proofs.Common.{◌≡◌, ◌≢◌, ◌∙◌, zero, suc, Bool, true, false, IsTrue, refl}
use Rattle.std.specs.Prelude.{◌||◌, ℤ, pos, negsuc}
use Rattle.polars_compute_arithmetic.specs.Zeros.{is_nonzero}

-- by 0 it does where the array did
pub owned-by_zero : (before : Bool) (z : ℤ) → z ≡ pos 0 → before ≡ (before || is_nonzero z)
owned-by_zero true z e = refl
owned-by_zero false (pos zero) e = refl
owned-by_zero false (pos (suc n)) e = cc
owned-by_zero false (negsuc n) e = cc

some-nonzero : (before : Bool) (z : ℤ) → z ≢ pos 0 → true ≡ (before || is_nonzero z)
some-nonzero true z some = refl
some-nonzero false (pos zero) some = absurd (some refl)
some-nonzero false (pos (suc n)) some = refl
some-nonzero false (negsuc n) some = refl

-- by any other number it does
pub owned-by_some : (after before : Bool) (z : ℤ) → z ≢ pos 0 → IsTrue after → after ≡ (before || is_nonzero z)
owned-by_some after before z some o = o ∙ some-nonzero before z some
