-- Laws of the texts that cells are compared by.
use Rattle.std.specs.Prelude.{◌≡◌, ◌↔◌, ◌⊎◌, ℕ, List, true}
use Rattle.json.specs.Print.{IsNumber}
use Rattle.json_decimals.specs.Decimals.{AreEqual, decimal_of}
use Rattle.diff_numbers.specs.Cells.{comparable}

-- two numbers, worth the same
abbrev pub AreEqualNumbers : List ℕ → List ℕ → Type 0
AreEqualNumbers s t = IsNumber s × IsNumber t × AreEqual (decimal_of s) (decimal_of t)

-- where numbers count, two cells are compared as the same where they are one text or numbers worth
-- the same, and only there
abbrev pub CellsTell : Type 0
CellsTell = (s t : List ℕ) → (comparable true s ≡ comparable true t)
    ↔ ((s ≡ t) ⊎ AreEqualNumbers s t)

-- two numbers are compared as the same where they are worth the same, and only there
abbrev pub NumbersTell : Type 0
NumbersTell = (s t : List ℕ) → IsNumber s → IsNumber t → (comparable true s ≡ comparable true t)
    ↔ AreEqual (decimal_of s) (decimal_of t)
