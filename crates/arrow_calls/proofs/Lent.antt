-- The validity of a part.
use Rattle.std.proofs.Common.{◌+◌, ℕ, List, [], ◌∷◌}
use Rattle.std.proofs.lemmas.List.FromFn.{length-map-range_with_len}
use Rattle.arrow_parts.specs.ByteBits.{byte_bit, presence}
use Rattle.polars_arrays_flat.specs.Validity.{HasBits}

-- a validity has a bit for each row
pub presence_bits : (at n : ℕ) (bytes : List ℕ) → HasBits n (presence at n bytes)
presence_bits at n [] = tt
presence_bits at n (byte ∷ bytes) = length-map-range_with_len (λ i. byte_bit (byte ∷ bytes) (at + i)) 0 n
