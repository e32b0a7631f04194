-- Bits that tell one thing.
use Rattle.std.proofs.Common.{◌≡◌, ◌<◌, ◌↔◌, ℕ, zero, suc, Bool, true, false, not, IsTrue, List, [], ◌∷◌, length, refl, sym, arith, slice_index_or}

-- a proposition about a bit holds of a bit that means the same
told-over : {P : Type 0} (told a b : Bool) → (a ≡ told) ↔ P → (b ≡ told) ↔ P → a ≡ told → b ≡ told
told-over told a b p q e = q.1 (p.0 e)

-- two bits that are `told` under one condition are one bit
pub told-same : {P : Type 0} (told a b : Bool) → (a ≡ told) ↔ P → (b ≡ told) ↔ P → a ≡ b
told-same told true true p q = refl
told-same told false false p q = refl
told-same true true false p q = sym (told-over true true false p q refl)
told-same false true false p q = told-over false false true q p refl
told-same true false true p q = told-over true true false q p refl
told-same false false true p q = sym (told-over false false true p q refl)

-- a bit that is true where another is false is its contrary
pub told-not : {P : Type 0} (a b : Bool) → (a ≡ true) ↔ P → (b ≡ false) ↔ P → b ≡ not a
told-not true b p q = q.1 (p.0 refl)
told-not false true p q = refl
told-not false false p q = p.1 (q.0 refl)

-- a bit that is true is one of the bits
pub true-within : (bits : List Bool) (i : ℕ) → IsTrue (slice_index_or bits i false) → i < length bits
true-within [] i h = cc
true-within (b ∷ bits) zero h = omega arith
true-within (b ∷ bits) (suc i) h = omega (arith, true-within bits i h)
