-- Laws of closeness.
use Rattle.std.specs.Prelude.{◌≡◌, IsTrue}
use Rattle.json_decimals.specs.Decimals.{Decimal, AreEqual}
use Rattle.json_tolerances.specs.Closeness.{is_close, is_within}
use Rattle.json_tolerances.specs.declared.closeness.Margin.{Margin}

-- it does not matter which of two numbers comes first
abbrev pub IsSymmetric : Type 0
IsSymmetric = (m : Margin) (a b : Decimal) → is_close m a b ≡ is_close m b a

-- equal numbers are close within any margin
abbrev pub EqualAreClose : Type 0
EqualAreClose = (m : Margin) (a b : Decimal) → AreEqual a b → IsTrue (is_close m a b)

-- numbers that lie nothing apart are equal
abbrev pub OnlyEqualWithinZero : Type 0
OnlyEqualWithinZero = (t a b : Decimal) → t.coefficient ≡ 0 → IsTrue (is_within t a b)
    → AreEqual a b
