-- Parts of a table, by the keys of its rows.
--
-- The key "a" has the hash af63dc4c8601ec8c, which is even, so that it is in part 2 of 2 and not in
-- part 1. Of the keys "a", "b", "a" those that are "a" have the numbers 1 and 3.
use Rattle.std.specs.Prelude.{◌≤◌, ◌%◌, ◌==◌, ℕ, suc, Bool, true, false, List, [], ◌∷◌}
use Rattle.diff_keys.specs.Hashes.{key_hash}

-- the number of a part, from 1 on, and the number of parts
pub record PartNumber : Type 0 where
  pub index : ℕ
  pub count : ℕ

-- there is a part of this number
abbrev pub IsPart : PartNumber → Type 0
IsPart part = (1 ≤ part.index) × (part.index ≤ part.count)

-- whether a part has the rows with keys of this hash: the hash has the remainder of the part's
-- number
abbrev pub has_hash : PartNumber → ℕ → Bool
has_hash part hash = hash % part.count == part.index % part.count

-- whether a part has the rows with this key
abbrev pub in_part : PartNumber → List ℕ → Bool
in_part part key = has_hash part (key_hash key)

-- a number before others, if it is kept
abbrev pub number_if : Bool → ℕ → List ℕ → List ℕ
number_if true n numbers = n ∷ numbers
number_if false n numbers = numbers

-- the numbers of the rows that a test keeps, where the first row has the number n
unfoldable pub numbers_kept : {R : Type 0} → (R → Bool) → ℕ → List R → List ℕ
numbers_kept keeps n [] = []
numbers_kept keeps n (row ∷ rows) = number_if (keeps row) n (numbers_kept keeps (suc n) rows)
