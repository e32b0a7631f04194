-- Guesses of truth values.
use Rattle.std.specs.Prelude.{◌<◌, ◌+◌, ℕ, Bool, IsTrue}

-- the guesses of n places from place `at` on are sure
abbrev pub AreSure : (ℕ → Bool) → ℕ → ℕ → Type 0
AreSure sure at n = (i : ℕ) → i < n → IsTrue (sure (at + i))
