-- The one text of each number.
--
-- The texts 1, 1.0, 10e-1 and 0.1e+1 have the normal text 1.
-- That of -0.00 is 0, that of 1200 is 12e2, and that of -0.05 is -5e-2.
use Rattle.std.specs.Fmt.{sign_text}
use Rattle.std.specs.Int.Digits.{digits_of}
use Rattle.std.specs.Prelude.{ℕ, zero, suc, ◌+◌, ◌^◌, ◌≤◌, ◌==◌, List, [], ◌∷◌, ◌++◌, map}
use Rattle.std.specs.Prelude.{if◌then◌else◌}
use Rattle.std.specs.Str.Parse.{digits_value}
use Rattle.json_decimals.specs.Decimals.{Decimal, normal_of, decimal_of, parts_of}

-- the digits of a number; the first is 0 only if it is the only one
unfoldable pub digits_text : ℕ → List ℕ
digits_text n = if n == 0 then 48 ∷ [] else map (λ d. 48 + d) (digits_of 10 n)

-- an exponent, or nothing if there are no tens
unfoldable pub tens_text : ℕ → ℕ → List ℕ
tens_text zero zero = []
tens_text zero (suc down) = 101 ∷ 45 ∷ digits_text (suc down)
tens_text (suc up) down = 101 ∷ digits_text (suc up)

-- a decimal as a sign, digits and an exponent
unfoldable pub number_text : Decimal → List ℕ
number_text n = sign_text n.negative ++ digits_text n.coefficient ++ tens_text n.up n.down

-- the normal text of the number that a text writes
unfoldable pub normal_number : List ℕ → List ℕ
normal_number s = number_text (normal_of (decimal_of s))

-- an exponent with more than 30 digits after its zeros
abbrev pub HasWideExponent : List ℕ → Type 0
HasWideExponent s = 10 ^ 30 ≤ digits_value 10 (parts_of s).exponent
