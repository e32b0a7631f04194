-- The validity: a bit for each row, 1 if it is present (the Arrow layout). None masks no row.
use Rattle.std.specs.Prelude.{◌≡◌, ℕ, Bool, true, false, not, List, Option, Some, None, IfSome}
use Rattle.std.specs.Prelude.{length, take, drop, count_by, slice_index_or, option_map}

-- true if row i is present; a row that is not is masked
abbrev pub is_present : Option (List Bool) → ℕ → Bool
is_present None i = true
is_present (Some bits) i = slice_index_or bits i false

-- a validity, if there is one, has a bit for each of n rows
abbrev pub HasBits : ℕ → Option (List Bool) → Type 0
HasBits n validity = IfSome validity (λ bits. length bits ≡ n)

-- the number of masked rows
abbrev pub masked_count : Option (List Bool) → ℕ
masked_count None = 0
masked_count (Some bits) = count_by not bits

-- the n elements from place `at` on
abbrev pub window : {A : Type 0} → ℕ → ℕ → List A → List A
window at n xs = take n (drop at xs)

-- the validity of n rows from row `at` on
abbrev pub validity_window : ℕ → ℕ → Option (List Bool) → Option (List Bool)
validity_window at n validity = option_map (window at n) validity
