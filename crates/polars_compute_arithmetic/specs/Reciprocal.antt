-- A divisor's reciprocal, as a fraction of p.
use Rattle.std.specs.Prelude.{ℕ, ◌+◌, ◌-◌, ◌/◌}

-- p / d rounded up
abbrev pub reciprocal : ℕ → ℕ → ℕ
reciprocal p d = (p - 1) / d + 1
