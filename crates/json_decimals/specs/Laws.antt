-- Laws of decimals and of their texts.
use Rattle.std.specs.Prelude.{◌≡◌, ◌↔◌, ℕ, List}
use Rattle.json_decimals.specs.Decimals.{Decimal, AreEqual, IsNormal, normal_of, decimal_of}
use Rattle.json_decimals.specs.Texts.{number_text, normal_number}

-- equality of decimals is transitive
abbrev pub PassesOn : Type 0
PassesOn = (a b c : Decimal) → AreEqual a b → AreEqual b c → AreEqual a c

-- the normal form of a decimal is normal, and the same number
abbrev pub NormalIsEqual : Type 0
NormalIsEqual = (a : Decimal) → IsNormal (normal_of a) × AreEqual (normal_of a) a

-- a number has one normal form
abbrev pub OneNormalForm : Type 0
OneNormalForm = (a b : Decimal) → IsNormal a → IsNormal b → AreEqual a b → a ≡ b

-- two decimals are equal if and only if their normal forms are the same
abbrev pub NormalFormsTell : Type 0
NormalFormsTell = (a b : Decimal) → AreEqual a b ↔ (normal_of a ≡ normal_of b)

-- the text of a normal decimal writes it
abbrev pub TextReadsBack : Type 0
TextReadsBack = (n : Decimal) → IsNormal n → decimal_of (number_text n) ≡ n

-- two texts write equal decimals if and only if their normal texts are the same
abbrev pub NormalTextsTell : Type 0
NormalTextsTell = (s t : List ℕ) → AreEqual (decimal_of s) (decimal_of t)
    ↔ (normal_number s ≡ normal_number t)
