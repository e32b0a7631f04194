-- The stored form of a state of numbers.
use Rattle.std.specs.Prelude.{◌≡◌, ◌+◌, ℕ, ℤ, Bool, true, false, List, length, nat_le}
use Rattle.polars_compute_slots.specs.Slots.{AreNumbers}
use Rattle.polars_compute_unique.specs.declared.primitive.Seen.{Seen}
use Rattle.polars_compute_unique.specs.declared.primitive.Seen.TheVariants.{Few, Many}

-- a flag for each slot, true if the slot is set
abbrev pub seen_slots : Seen → List Bool
seen_slots (Few slots) = slots
seen_slots (Many slots) = slots

-- true if the slots are stored in one word
abbrev pub in_word : Seen → Bool
in_word (Few slots) = true
in_word (Many slots) = false

-- values within a type's bounds, a slot for each and for null, and up to 128 slots in one word
pub record IsKept (low high least : ℤ) (n : ℕ) (seen : Seen) : Type 0 where
  pub numbers : AreNumbers low high least n
  pub size : length (seen_slots seen) ≡ n + 1
  pub word : in_word seen ≡ nat_le (n + 1) 128
