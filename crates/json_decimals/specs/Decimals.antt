-- Exact decimals, and the normal form of each.
--
-- The numeral 1500e-2 has the coefficient 1500 and two tens down. Its normal form has the
-- coefficient 15 and no tens.
use Rattle.std.specs.Prelude.{◌≡◌, ◌≢◌, ℕ, zero, suc, ◌+◌, ◌-◌, ◌*◌, ◌/◌, ◌%◌, ◌^◌, ◌==◌, ◌⊎◌, Bool}
use Rattle.std.specs.Prelude.{false, List, drop, slice_index, if◌then◌else◌}
use Rattle.fast_float.specs.Text.{minus, Parts, scan, digits_of, tens_up, tens_down}

-- the number coefficient * 10 ^ up / 10 ^ down, or minus this number if `negative` is true
pub record Decimal : Type 0 where
  pub negative : Bool
  pub coefficient : ℕ
  pub up : ℕ
  pub down : ℕ

-- two decimals are the same number: their sizes are equal once both are multiplied by the tens that
-- divide them, and they have one sign or are zero
pub record AreEqual (a b : Decimal) : Type 0 where
  pub size : a.coefficient * 10 ^ (a.up + b.down) ≡ b.coefficient * 10 ^ (b.up + a.down)
  pub sign : (a.coefficient ≡ 0) ⊎ (a.negative ≡ b.negative)

-- zero, with no sign and no tens
abbrev pub zero_decimal : Decimal
zero_decimal = record { negative = false; coefficient = 0; up = 0; down = 0 }

-- a coefficient that does not end in 0, with tens on one side at most
abbrev pub IsTrimmed : Decimal → Type 0
IsTrimmed a = (a.coefficient % 10 ≢ 0) × ((a.up ≡ 0) ⊎ (a.down ≡ 0))

-- a normal form: zero itself, or trimmed
abbrev pub IsNormal : Decimal → Type 0
IsNormal a = (a ≡ zero_decimal) ⊎ IsTrimmed a

-- the number of times that ten divides a number, up to a limit
abbrev pub tens_in : ℕ → ℕ → ℕ
tens_in zero c = 0
tens_in (suc most) c = if c % 10 == 0 then suc (tens_in most (c / 10)) else 0

-- a number divided by ten this number of times
abbrev pub without_tens : ℕ → ℕ → ℕ
without_tens zero c = c
without_tens (suc most) c = if c % 10 == 0 then without_tens most (c / 10) else c

-- a decimal with this coefficient and this number of zeros after it, with tens on one side only
abbrev pub shifted : Decimal → ℕ → ℕ → Decimal
shifted a coefficient zeros = record {
  negative = a.negative;
  coefficient = coefficient;
  up = a.up + zeros - a.down;
  down = a.down - (a.up + zeros);
}

-- the normal form of a decimal
unfoldable pub normal_of : Decimal → Decimal
normal_of a = if a.coefficient ==
    0 then zero_decimal else shifted a (without_tens a.coefficient a.coefficient)
    (tens_in a.coefficient a.coefficient)

-- the decimal that the parts of a numeral write
abbrev pub worth : Bool → Parts → Decimal
worth negative p =
    record { negative = negative; coefficient = digits_of p; up = tens_up p; down = tens_down p }

-- a text begins with a minus
abbrev pub is_negative : List ℕ → Bool
is_negative s = slice_index s 0 == minus

-- a text without its sign
abbrev pub unsigned : List ℕ → List ℕ
unsigned s = if is_negative s then drop 1 s else s

-- the parts of the numeral after the sign
abbrev pub parts_of : List ℕ → Parts
parts_of s = scan (unsigned s)

-- the decimal that a number's text writes
unfoldable pub decimal_of : List ℕ → Decimal
decimal_of s = worth (is_negative s) (parts_of s)
