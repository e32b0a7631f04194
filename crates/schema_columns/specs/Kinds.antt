-- Kinds of cells.
--
-- The cells 12 and -7 are whole numbers. The cells 12, -7 and 1.5 are numbers, and with 007 they
-- are texts. The cells true and false are truth values.
use Rattle.std.specs.List.{All}
use Rattle.std.specs.Prelude.{◌≡◌, ◌<◌, ◌⊎◌, ⊤, ℕ, ℤ, ◌==◌, Bool, List, [], FitsSigned, codes}
use Rattle.std.specs.Int.{w64}
use Rattle.fast_float.specs.Text.{IsInteger, digits_of, with_sign}
use Rattle.json_decimals.specs.Decimals.{is_negative, parts_of}
use Rattle.schema_columns.specs.declared.kind.Kind.{Kind}
use Rattle.schema_columns.specs.declared.kind.Kind.TheVariants.{Empty, Truth, Whole, Number, Text}
use Rattle.schema_values.specs.Numbers.{IsNumber}

-- the cell is the word true or the word false
abbrev pub IsTruth : List ℕ → Type 0
IsTruth cell = (cell ≡ codes "true") ⊎ (cell ≡ codes "false")

-- the number that the digits of a cell write, with its sign
abbrev pub whole_of : List ℕ → ℤ
whole_of cell = with_sign (is_negative cell) (digits_of (parts_of cell))

-- the cell is a number with no point and no exponent, from -2^63 to 2^63 - 1
abbrev pub IsWhole : List ℕ → Type 0
IsWhole cell = IsNumber cell × IsInteger (parts_of cell) × FitsSigned w64 (whole_of cell)

-- all cells are of a kind
abbrev pub AreOf : Kind → List (List ℕ) → Type 0
AreOf Empty cells = cells ≡ []
AreOf Truth cells = All IsTruth cells
AreOf Whole cells = All IsWhole cells
AreOf Number cells = All IsNumber cells
AreOf Text cells = ⊤

-- the number of narrower kinds
abbrev pub width : Kind → ℕ
width Empty = 0
width Truth = 1
width Whole = 2
width Number = 3
width Text = 4

-- two kinds are the same
abbrev pub same_kind : Kind → Kind → Bool
same_kind left right = width left == width right

-- all cells are of the kind, and of no narrower one
pub record IsNarrowest (cells : List (List ℕ)) (kind : Kind) : Type 0 where
  pub all : AreOf kind cells
  pub none_narrower : (other : Kind) → width other < width kind → ¬ AreOf other cells
