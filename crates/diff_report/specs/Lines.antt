-- The lines of differences.
--
-- ~ id=4411  city "Oslo" -> "Bergen"
-- - id=77  old.csv line 78
-- In colours ~ id=4411 is yellow, the left cell and the line of id=77 are red, and the right cell
-- is green.
use Rattle.std.specs.Fmt.{decimal}
use Rattle.std.specs.Prelude.{ℕ, ◌==◌, if◌then◌else◌, List, [], ◌∷◌, ◌++◌, map, slice_index, codes}
use Rattle.diff_keys.specs.declared.matching.Matching.{Matching}
use Rattle.diff_words.specs.Colors.{painted}
use Rattle.diff_words.specs.Lists.{listed}
use Rattle.diff_words.specs.Words.{word_text}
use Rattle.diff_words.specs.declared.colors.Color.{Color}
use Rattle.diff_words.specs.declared.colors.Color.TheVariants.{Red, Green, Yellow}
use Rattle.diff_report.specs.Naming.{Naming}
use Rattle.diff_report.specs.Pairs.{change_text, columns_of}
use Rattle.diff_report.specs.Rows.{row_text}
use Rattle.diff_report.specs.Sides.{naming_of, row_of}
use Rattle.diff_report.specs.declared.sides.Side.{Side}
use Rattle.diff_report.specs.declared.sides.Sides.{Sides}

-- the line of two rows that differ in some columns: what left row i is named by, and each of these
-- columns
abbrev pub pair_line : Naming → List ℕ → ℕ → List (List ℕ) → List (List ℕ) → List ℕ
pair_line n columns i left right = painted n.colored Yellow (codes "~ " ++ row_text n i left)
    ++ codes "  " ++ listed (codes ", ") (map (change_text n left right) columns) ++ 10 ∷ []

-- the line of left row i and right row j
abbrev pub line_of : Sides → ℕ → ℕ → List ℕ
line_of s i j = pair_line (naming_of s) (columns_of s i j) i (row_of s.left i) (row_of s.right j)

-- the line of the pair at place k of the matched rows
unfoldable pub changed_line : Sides → Matching → ℕ → List ℕ
changed_line s m k = line_of s (slice_index m.left_rows.items k) (slice_index m.right_rows.items k)

-- the colour of a line with this mark: red after a minus, and else green
abbrev pub mark_color : ℕ → Color
mark_color mark = if mark == 45 then Red else Green

-- row i of one side, with its file and the line at which it begins
unfoldable pub side_text : ℕ → Naming → Side → ℕ → List ℕ
side_text mark n side i = mark ∷ 32 ∷ [] ++ row_text n i (row_of side i) ++ codes "  "
    ++ word_text side.name.items ++ codes " line " ++ decimal (slice_index side.lines.items i)

-- the line of row i of one side
unfoldable pub side_line : ℕ → Naming → Side → ℕ → List ℕ
side_line mark n side i = painted n.colored (mark_color mark) (side_text mark n side i) ++ 10 ∷ []
