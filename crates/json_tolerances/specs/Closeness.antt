-- Numbers that lie close together.
--
-- 0.30 and 0.31 lie 0.01 apart. This is within 0.01, and within 0.05 times the larger one. 1 and
-- -1 lie 2 apart. This is within twice the larger one.
use Rattle.std.specs.Prelude.{ℕ, ◌+◌, ◌-◌, ◌*◌, ◌^◌, Bool, nat_le, max, if◌then◌else◌}
use Rattle.std.specs.Bool.{beq}
use Rattle.json_decimals.specs.Decimals.{Decimal}
use Rattle.json_tolerances.specs.declared.closeness.Margin.{Margin}
use Rattle.json_tolerances.specs.declared.closeness.Margin.TheVariants.{Absolute, Relative}

-- a number without its sign, times the tens that divide it and the tens that divide another number
abbrev pub size_beside : Decimal → Decimal → ℕ
size_beside a b = a.coefficient * 10 ^ (a.up + b.down)

-- the distance between two sizes
abbrev pub gap : ℕ → ℕ → ℕ
gap m n = m - n + (n - m)

-- the distance between two numbers, times the tens that divide them
abbrev pub distance : Decimal → Decimal → ℕ
distance a b =
    if beq a.negative b.negative then gap (size_beside a b) (size_beside b a) else size_beside a
    b + size_beside b a

-- two numbers lie at most t apart
abbrev pub is_within : Decimal → Decimal → Decimal → Bool
is_within t a b =
    nat_le (distance a b * 10 ^ t.down) (t.coefficient * 10 ^ (t.up + a.down + b.down))

-- two numbers lie at most t times the larger one apart, where the larger one is found without the
-- signs
abbrev pub is_within_part : Decimal → Decimal → Decimal → Bool
is_within_part t a b =
    nat_le (distance a b * 10 ^ t.down)
    (t.coefficient * 10 ^ t.up * max (size_beside a b) (size_beside b a))

-- two numbers lie within a margin
abbrev pub is_close : Margin → Decimal → Decimal → Bool
is_close (Absolute t) a b = is_within t a b
is_close (Relative t) a b = is_within_part t a b
