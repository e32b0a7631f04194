-- Cells that lie within a tolerance of each other.
--
-- Where the column "n" has a tolerance of 0.1, the left cell 7.0 of that column allows the right
-- cell 7.05, which is then compared by 7.0. The right cells 7.2 and "about 7" are compared by
-- themselves.
use Rattle.std.specs.List.{list_any}
use Rattle.std.specs.Prelude.{◌≡◌, ◌&&◌, ◌^◌, ℕ, Bool, true, nat_lt, List, if◌then◌else◌}
use Rattle.std.specs.Str.{bytes_eq}
use Rattle.std.specs.Str.Parse.{digits_value}
use Rattle.json_decimals.specs.Decimals.{decimal_of, parts_of}
use Rattle.json_decimals.specs.Texts.{HasWideExponent}
use Rattle.json_tolerances.specs.Closeness.{is_close}
use Rattle.json_tolerances.specs.declared.closeness.Margin.{Margin}
use Rattle.diff_numbers.specs.Cells.{is_number}
use Rattle.diff_tolerances.specs.declared.cells.Tolerance.{Tolerance}

-- an exponent of at most 30 digits after its zeros
abbrev pub has_narrow_exponent : List ℕ → Bool
has_narrow_exponent s = nat_lt (digits_value 10 (parts_of s).exponent) (10 ^ 30)

-- the cell is a number, as JSON writes numbers, whose exponent has at most 30 digits
abbrev pub is_narrow_number : List ℕ → Bool
is_narrow_number cell = is_number cell && has_narrow_exponent cell

-- the text of a cell that is such a number
pub record IsNarrowNumeral (cell text : List ℕ) : Type 0 where
  pub number : is_narrow_number cell ≡ true
  pub narrow : ¬ HasWideExponent text
  pub is : text ≡ cell

-- two cells are numbers that lie within a margin
abbrev pub are_close : Margin → List ℕ → List ℕ → Bool
are_close margin left right =
    is_narrow_number left && is_narrow_number right
    && is_close margin (decimal_of left) (decimal_of right)

-- a tolerance allows two cells of a column to differ
abbrev pub allows : Tolerance → List ℕ → List ℕ → List ℕ → Bool
allows t column left right = bytes_eq t.column.now column && are_close t.margin left right

-- one of some tolerances allows two cells of a column to differ
abbrev pub is_tolerated : List Tolerance → List ℕ → List ℕ → List ℕ → Bool
is_tolerated tolerances column left right = list_any (λ t. allows t column left right) tolerances

-- the cell that the right one of two cells of a column is compared by: the left one, where they are
-- allowed to differ
abbrev pub cell_by : List Tolerance → List ℕ → List ℕ → List ℕ → List ℕ
cell_by tolerances column left right =
    if is_tolerated tolerances column left right then left else right
