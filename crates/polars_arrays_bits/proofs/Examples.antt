-- Worked examples of the definitions: the check computes both sides of each.
use Rattle.std.specs.Prelude.{◌≡◌, zero, suc, true, false, [], ◌∷◌, slice_index_or, slice_index, refl}
use Rattle.std.proofs.Common.{arith}
use Rattle.polars_arrays_bits.specs.Costs.{cost_of}
use Rattle.polars_arrays_bits.specs.Guesses.{AreSure}

-- of the costs 5, 0, 2 the last two together
cost_of-two : cost_of (slice_index (5 ∷ 0 ∷ 2 ∷ [])) 1 2 ≡ 2
cost_of-two = refl

-- of the guesses of three places the first one is not sure, and the others are
AreSure-last_two : AreSure (λ p. slice_index_or (false ∷ true ∷ true ∷ []) p false) 1 2
AreSure-last_two zero lt = refl
AreSure-last_two (suc zero) lt = refl
AreSure-last_two (suc (suc i)) lt = absurd (omega arith)
