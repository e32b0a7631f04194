-- Worked examples of the definitions.
use Rattle.std.proofs.Common.{arith}
use Rattle.std.specs.Prelude.{◌≡◌, zero, suc, true, false, [], ◌∷◌, refl}
use Rattle.diff_pairs.specs.Pairs.{IsUnset, NameRows}
use Rattle.diff_pairs.specs.Rows.{row_cells}

-- 0 and 2 name two of three rows
two-of-three : NameRows 3 (0 ∷ 2 ∷ [])
two-of-three zero h = omega arith
two-of-three (suc zero) h = omega arith
two-of-three (suc (suc p)) h = absurd (omega (arith, h))

-- of two bits the second is not set
second-unset : IsUnset (true ∷ false ∷ []) 1
second-unset = refl

-- of four cells row 1 of two has the last two
row-of-two : row_cells 2 ((97 ∷ []) ∷ (98 ∷ []) ∷ (99 ∷ []) ∷ (100 ∷ []) ∷ []) 1 ≡ (99 ∷ []) ∷ (100 ∷ []) ∷ []
row-of-two = refl
