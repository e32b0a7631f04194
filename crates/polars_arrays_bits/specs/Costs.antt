-- Sums of costs.
use Rattle.std.specs.Prelude.{ℕ, zero, suc, ◌+◌}

-- the sum of the costs of n places from place `at` on
abbrev pub cost_of : (ℕ → ℕ) → ℕ → ℕ → ℕ
cost_of costs at zero = 0
cost_of costs at (suc n) = cost_of costs at n + costs (at + n)
