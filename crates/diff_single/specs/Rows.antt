-- One row of a table.
--
-- Row 76 of old.csv has the cells 77 and Oslo, the number 77, and the line 78.
use Rattle.std.specs.Prelude.{◌≡◌, ℕ, List, [], ◌∷◌, None, IfSome, length, slice_index}
use Rattle.diff_report.specs.Sides.{naming_of, number_of, row_of}
use Rattle.diff_report.specs.declared.sides.Side.{Side}
use Rattle.diff_report.specs.declared.sides.Sides.{Sides}
use Rattle.diff_single.specs.Frame.{naming_by}
use Rattle.diff_single.specs.declared.frame.Frame.{Frame}

-- row i of a side has these cells, the number n, and the line at which it begins
pub record HasRowAt (side : Side) (i : ℕ) (strings : List (List ℕ)) (n at : ℕ) : Type 0 where
  pub cells : row_of side i ≡ strings
  pub number : number_of side i ≡ n
  pub line : slice_index side.lines.items i ≡ at

-- a side of a name has one row, of these cells, the number n, and the line at which it begins
pub record IsOneRow (text : List ℕ) (strings : List (List ℕ)) (n at : ℕ) (side : Side) :
    Type 0 where
  pub name : side.name.items ≡ text
  pub width : side.table.width ≡ length strings
  pub rows : side.table.rows ≡ strings ∷ []
  pub lines : side.lines.items ≡ at ∷ []
  pub numbers : IfSome side.numbers (λ v. length v.items ≡ 1)
  pub number : number_of side 0 ≡ n

-- both sides have one row, under the frame's names
pub record HasOneRowEach (f : Frame) (first : List (List ℕ)) (first_number first_line : ℕ)
    (second : List (List ℕ)) (second_number second_line : ℕ) (s : Sides) : Type 0 where
  pub naming : naming_of s ≡ naming_by f
  pub comparables : s.comparables ≡ None
  pub left : IsOneRow f.left.now first first_number first_line s.left
  pub right : IsOneRow f.right.now second second_number second_line s.right
