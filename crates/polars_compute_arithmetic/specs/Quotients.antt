-- Quotients of whole numbers by a divisor other than 0.
use Rattle.std.specs.Prelude.{◌-ℤ◌, ◌*ℤ◌, ◌/◌, ℕ, zero, suc, ℤ, pos, negsuc, neg_ℤ, int_div, Bool}
use Rattle.std.specs.Prelude.{true, false}

-- a / n rounded down, for n above 0
abbrev pub floor_by : ℤ → ℕ → ℤ
floor_by (pos a) n = pos (a / n)
floor_by (negsuc a) n = negsuc (a / n)

-- the floor quotient: a / b rounded down
abbrev pub floor_quotient : ℤ → ℤ → ℤ
floor_quotient a (pos n) = floor_by a n
floor_quotient a (negsuc n) = floor_by (neg_ℤ a) (suc n)

-- the truncated quotient: a / b rounded toward 0
abbrev pub truncated_quotient : ℤ → ℤ → ℤ
truncated_quotient a b = int_div a b

-- the modulus: a less the floor quotient times b
abbrev pub modulus : ℤ → ℤ → ℤ
modulus a b = a -ℤ b *ℤ floor_quotient a b

-- a number above 0
abbrev pub is_above : ℤ → Bool
is_above (pos zero) = false
is_above (pos (suc n)) = true
is_above (negsuc n) = false

-- a number below 0
abbrev pub is_below : ℤ → Bool
is_below (pos n) = false
is_below (negsuc n) = true

-- a remainder and its divisor lie on different sides of 0
abbrev pub across : ℤ → ℤ → Bool
across rest (pos n) = is_below rest
across rest (negsuc n) = is_above rest
