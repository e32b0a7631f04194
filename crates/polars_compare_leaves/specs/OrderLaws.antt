-- Of two whole numbers, one is at most the other exactly if the other is not less.
use Rattle.std.specs.Prelude.{◌≡◌, ℕ, suc, leb, ltb, ℤ, pos, negsuc, not, int_lt, int_le, refl}
use Rattle.std.proofs.Common.{◌∙◌, sym, ap, inl, inr, arith}
use Rattle.std.proofs.lemmas.Bool.Decides.{leb_tells}

-- of two naturals, one is at most the other exactly if the other is not less
at_most-not_less : (m n : ℕ) → leb m n ≡ not (ltb n m)
at_most-not_less m n = elim (leb_tells m n) [
  | inl p ↦ elim (leb_tells (suc n) m)
      [ inl q ↦ absurd (omega (arith, p.1, q.1)) | inr q ↦ p.0 ∙ sym (ap not q.0) ]
  | inr p ↦ elim (leb_tells (suc n) m)
      [ inl q ↦ p.0 ∙ sym (ap not q.0) | inr q ↦ absurd (omega (arith, p.1, q.1)) ]
]

-- of two whole numbers, one is at most the other exactly if the other is not less
pub int_le-not_less : (m n : ℤ) → int_le m n ≡ not (int_lt n m)
int_le-not_less (pos m) (pos n) = at_most-not_less m n
int_le-not_less (pos m) (negsuc n) = refl
int_le-not_less (negsuc m) (pos n) = refl
int_le-not_less (negsuc m) (negsuc n) = at_most-not_less n m
