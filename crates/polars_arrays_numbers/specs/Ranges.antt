-- The whole numbers that a type of a fixed width has.
use Rattle.std.specs.Prelude.{◌-◌, ◌^◌, ℕ, ℤ, pos, neg_ℤ, Bool, true, false}

-- the least number of a type of `width` bits in two's complement, or 0 if the type is unsigned
abbrev pub least_of : Bool → ℕ → ℤ
least_of true width = neg_ℤ (pos (2 ^ (width - 1)))
least_of false width = pos 0

-- the greatest number of a type of `width` bits, one of them the sign if the type is signed
abbrev pub greatest_of : Bool → ℕ → ℤ
greatest_of true width = pos (2 ^ (width - 1) - 1)
greatest_of false width = pos (2 ^ width - 1)
