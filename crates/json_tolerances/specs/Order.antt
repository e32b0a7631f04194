-- The order of exact decimals.
--
-- 12.50 is less than 1.3e1, -2 is less than 0, and of -0 and 0 neither is less.
use Rattle.std.specs.Prelude.{ℕ, ◌+◌, Bool, not, ◌&&◌, nat_lt, if◌then◌else◌}
use Rattle.json_decimals.specs.Decimals.{Decimal}
use Rattle.json_tolerances.specs.Closeness.{size_beside}

-- a number of this sign and size is less than another; of two negative numbers the one of larger
-- size is less, and a negative one is less than one that is not negative, unless both are zero
abbrev pub signed_less : Bool → Bool → ℕ → ℕ → Bool
signed_less negative other_negative m n =
    if negative then (if other_negative then nat_lt n m else nat_lt 0 (m + n)) else not
    other_negative && nat_lt m n

-- a decimal is less than another
abbrev pub decimal_less : Decimal → Decimal → Bool
decimal_less a b = signed_less a.negative b.negative (size_beside a b) (size_beside b a)
