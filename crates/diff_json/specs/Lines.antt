-- The lines of differences. Rows and lines count from 1.
--
-- {"kind":"changed","key":{"id":"4411"},"left_row":5,"right_row":7,"left_line":6,"right_line":8,
--  "changes":{"city":{"left":"Oslo","right":"Bergen"}}}
-- {"kind":"removed","key":{"id":"77"},"row":77,"line":78}
use Rattle.std.specs.Fmt.{decimal}
use Rattle.std.specs.Prelude.{ℕ, List, ◌++◌, slice_index, codes}
use Rattle.diff_keys.specs.declared.matching.Matching.{Matching}
use Rattle.diff_report.specs.Naming.{Naming}
use Rattle.diff_report.specs.Pairs.{columns_of}
use Rattle.diff_report.specs.Sides.{naming_of, number_of, row_of}
use Rattle.diff_report.specs.declared.sides.Side.{Side}
use Rattle.diff_report.specs.declared.sides.Sides.{Sides}
use Rattle.diff_json.specs.Changes.{change_members}
use Rattle.diff_json.specs.Keys.{key_members}

-- the line of a left row and a right row of these numbers, which differ in some columns
unfoldable pub pair_object : Naming → List ℕ → ℕ → ℕ → List (List ℕ) → ℕ → ℕ → List (List ℕ)
    → List ℕ
pair_object n columns i left_line left j right_line right = codes "{\"kind\":\"changed\",\"key\":{"
    ++ key_members n left ++ codes "},\"left_row\":" ++ decimal i
    ++ codes ",\"right_row\":" ++ decimal j ++ codes ",\"left_line\":" ++ decimal left_line
    ++ codes ",\"right_line\":" ++ decimal right_line
    ++ codes ",\"changes\":{" ++ change_members n columns left right ++ codes "}}\n"

-- the line of left row i and right row j
abbrev pub object_of : Sides → ℕ → ℕ → List ℕ
object_of s i j =
    pair_object (naming_of s) (columns_of s i j) (number_of s.left i)
    (slice_index s.left.lines.items i) (row_of s.left i) (number_of s.right j)
    (slice_index s.right.lines.items j) (row_of s.right j)

-- the line of the pair at place k of the matched rows
unfoldable pub changed_object : Sides → Matching → ℕ → List ℕ
changed_object s m k =
    object_of s (slice_index m.left_rows.items k) (slice_index m.right_rows.items k)

-- the line of a row of this number, which only one side has
unfoldable pub row_object : List ℕ → Naming → ℕ → ℕ → List (List ℕ) → List ℕ
row_object kind n i line cells = codes "{\"kind\":\"" ++ kind ++ codes "\",\"key\":{"
    ++ key_members n cells ++ codes "},\"row\":" ++ decimal i ++ codes ",\"line\":" ++ decimal line
    ++ codes "}\n"

-- the line of row i of a side
unfoldable pub side_object : List ℕ → Naming → Side → ℕ → List ℕ
side_object kind n side i =
    row_object kind n (number_of side i) (slice_index side.lines.items i) (row_of side i)
