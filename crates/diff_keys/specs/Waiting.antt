-- The row of a key with a number, as the search for partners keeps it.
use Rattle.std.specs.Prelude.{ℕ, zero, suc, Bool, true, false, List, [], ◌∷◌, Option, Some, None}
use Rattle.std.specs.Prelude.{take, option_map}
use Rattle.std.specs.Str.{bytes_eq}
use Rattle.diff_keys.specs.Partners.{Keys, count_of}

-- this row if it has the key and the number is 0, and otherwise a later one
abbrev pub this_or_later : Bool → ℕ → (ℕ → Option ℕ) → Option ℕ
this_or_later true zero later = Some 0
this_or_later true (suc n) later = option_map suc (later n)
this_or_later false n later = option_map suc (later n)

-- the row of the key k with n rows of this key before it
unfoldable pub nth : List ℕ → ℕ → Keys → Option ℕ
nth k n [] = None
nth k n (x ∷ xs) = this_or_later (bytes_eq x k) n (λ m. nth k m xs)

-- the first row from row j on that has the key k
abbrev pub next_from : List ℕ → ℕ → Keys → Option ℕ
next_from k j keys = nth k (count_of k (take j keys)) keys
