-- Laws of numbers.
use Rattle.std.specs.Prelude.{◌≡◌, ◌↔◌, ℕ, List, true}
use Rattle.json_decimals.specs.Decimals.{AreEqual, decimal_of}
use Rattle.schema_values.specs.Numbers.{same_number}

-- two texts write one number exactly if their decimals are equal
abbrev pub OneNumberWhereEqual : Type 0
OneNumberWhereEqual = (s t : List ℕ) → (same_number s t ≡ true)
    ↔ AreEqual (decimal_of s) (decimal_of t)
