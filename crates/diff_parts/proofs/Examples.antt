-- Worked examples of the definitions.
use Rattle.std.proofs.Common.{refl}
use Rattle.std.specs.Prelude.{◌≡◌, true, false, [], ◌∷◌, codes}
use Rattle.diff_keys.specs.Hashes.{key_hash}
use Rattle.diff_parts.specs.Parts.{PartNumber, in_part, numbers_kept}

-- the first and the second half
abbrev first : PartNumber
first = record { index = 1; count = 2 }

abbrev second : PartNumber
second = record { index = 2; count = 2 }

even-hash : in_part second (codes "a") ≡ true
unfolding key_hash
even-hash = refl

not-odd : in_part first (codes "a") ≡ false
unfolding key_hash
not-odd = refl

-- the rows that are a have the numbers 1 and 3
two-kept : numbers_kept (in_part second) 1 (codes "a" ∷ codes "b" ∷ codes "a" ∷ []) ≡ 1 ∷ 3 ∷ []
unfolding key_hash numbers_kept
two-kept = refl
