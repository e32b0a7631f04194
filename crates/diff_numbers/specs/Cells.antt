-- The texts that cells are compared by.
--
-- The cells 12, 12.00 and 1.2e1 are numbers, and where numbers count all are compared by 12. The
-- cell 007 is no number, and is compared by 007.
use Rattle.std.specs.Prelude.{◌≡◌, ℕ, Bool, true, false, ◌&&◌, if◌then◌else◌, List, [], ◌∷◌, Option}
use Rattle.std.specs.Prelude.{None, Some}
use Rattle.json.specs.Word.{after_number}
use Rattle.json_decimals.specs.Texts.{HasWideExponent, normal_number}

-- there is a rest, and it is empty
abbrev pub is_end : Option (List ℕ) → Bool
is_end None = false
is_end (Some []) = true
is_end (Some (b ∷ rest)) = false

-- the cell is a number, as JSON writes numbers
abbrev pub is_number : List ℕ → Bool
is_number cell = is_end (after_number cell)

-- the text that a cell is compared by: the normal text of a number, where numbers count, and
-- otherwise the cell
abbrev pub comparable : Bool → List ℕ → List ℕ
comparable numeric cell = if numeric && is_number cell then normal_number cell else cell

-- the text of a cell that is a number
pub record IsNumeral (cell text : List ℕ) : Type 0 where
  pub number : is_number cell ≡ true
  pub is : text ≡ cell

-- a number whose exponent has more than 30 digits
pub record IsWideNumber (cell : List ℕ) : Type 0 where
  pub number : is_number cell ≡ true
  pub wide : HasWideExponent cell
