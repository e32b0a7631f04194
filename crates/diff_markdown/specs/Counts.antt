-- The counts in the head of a report.
--
-- {"kind":"counts","changed":1,"removed":2,"added":0,"same":5,"not_shown":0,"columns":{"city":1}}
-- is : 1 changed, 2 removed, 0 added, 5 the same. By column: `city=1`.
use Rattle.std.specs.Prelude.{ℕ, ◌==◌, if◌then◌else◌, List, [], ◌++◌, length, codes}
use Rattle.std.specs.Str.{bytes_eq}
use Rattle.json.specs.Find.{get}
use Rattle.json.specs.Json.{Json}
use Rattle.diff_lines.specs.Parts.{number_at}
use Rattle.diff_markdown.specs.Cells.{pairs_cell}
use Rattle.diff_markdown.specs.Escapes.{safe}
use Rattle.diff_markdown.specs.Rows.{number_cell}

-- the number of rows of each kind
unfoldable pub kinds_text : Json → List ℕ
kinds_text j =
    codes ": " ++ number_cell (codes "changed") j ++ codes " changed, "
    ++ number_cell (codes "removed") j ++ codes " removed, " ++ number_cell (codes "added") j
    ++ codes " added, "
    ++ number_cell (codes "same") j ++ codes " the same."

-- the number of cells that differ in each column, if any does
abbrev pub columns_note : List ℕ → List ℕ
columns_note pairs = if length pairs == 0 then [] else codes " By column: " ++ pairs ++ codes "."

-- the number of lines of each file that are passed over, if the report has these counts
unfoldable pub skipped_note : Json → List ℕ
skipped_note j =
    if length (number_at (codes "left_skipped") j) == 0 then []
    else codes " Skipped lines: " ++ number_cell (codes "left_skipped") j ++ codes " left, "
    ++ number_cell (codes "right_skipped") j ++ codes " right."

-- the number of differences that the report leaves out, if it leaves out any
abbrev pub hidden_note : List ℕ → List ℕ
hidden_note count = if bytes_eq count (codes "0") then [] else codes " Not shown: " ++ safe count
    ++ codes " more."

-- the counts of a report
unfoldable pub counts_text : Json → List ℕ
counts_text j = kinds_text j ++ columns_note (pairs_cell (get (codes "columns") j))
    ++ skipped_note j ++ hidden_note (number_at (codes "not_shown") j)
