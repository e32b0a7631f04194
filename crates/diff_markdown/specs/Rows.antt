-- The rows of a table, for the lines of a report.
--
-- {"kind":"removed","key":{"id":"2"},"row":2,"line":3} is the row | removed | `id="2"` | | line 3 |
-- |
use Rattle.std.specs.Prelude.{ℕ, ◌==◌, if◌then◌else◌, List, [], ◌++◌, length, codes, Option, Some}
use Rattle.std.specs.Prelude.{None, option_and_then}
use Rattle.std.specs.Str.{bytes_eq}
use Rattle.json.specs.Find.{as_array, as_object, get}
use Rattle.json.specs.Json.{Json, Items, no_items, item, Members, no_members, member}
use Rattle.diff_lines.specs.Parts.{number_at, string_at}
use Rattle.diff_markdown.specs.Cells.{name_cell, pairs_cell, side_cell}
use Rattle.diff_markdown.specs.Escapes.{safe}

-- a number as it is written
abbrev pub number_cell : List ℕ → Json → List ℕ
number_cell name j = safe (number_at name j)

-- a changed row by its key, or by the lines of both files where it has none
abbrev pub key_or_lines : List ℕ → Json → List ℕ
key_or_lines key j = if length key == 0 then codes "lines " ++ number_cell (codes "left_line") j
    ++ codes " and " ++ number_cell (codes "right_line") j else key

-- the name of a changed row
unfoldable pub row_name : Json → List ℕ
row_name j = key_or_lines (pairs_cell (get (codes "key") j)) j

-- the row of a part that differs
unfoldable pub change_row : List ℕ → List ℕ → Json → List ℕ
change_row name part change =
    codes "| changed | " ++ name ++ codes " | " ++ name_cell part ++ codes " | "
    ++ side_cell (get (codes "left") change) ++ codes " | "
    ++ side_cell (get (codes "right") change)
    ++ codes " |\n"

-- the rows of parts that stand under their names
abbrev pub member_rows : List ℕ → Members → List ℕ
member_rows name no_members = []
member_rows name (member part change rest) = change_row name part change ++ member_rows name rest

-- the rows of parts that have their paths with them
abbrev pub item_rows : List ℕ → Items → List ℕ
item_rows name no_items = []
item_rows name (item change rest) = change_row name (string_at (codes "path") change) change
    ++ item_rows name rest

-- the rows of the parts of an object, if there is one
abbrev pub rows_in_object : List ℕ → Option Members → List ℕ
rows_in_object name None = []
rows_in_object name (Some changes) = member_rows name changes

-- the rows of the parts of an array, if there is one
abbrev pub rows_in_array : List ℕ → Option Items → List ℕ
rows_in_array name None = []
rows_in_array name (Some changes) = item_rows name changes

-- the rows of the parts of a row that differ: those of a table are an object, and those of
-- documents an array
unfoldable pub change_rows : List ℕ → Option Json → List ℕ
change_rows name part = rows_in_object name (option_and_then as_object part)
    ++ rows_in_array name (option_and_then as_array part)

-- the rows of a row that changed
abbrev pub changed_rows : Json → List ℕ
changed_rows j = change_rows (row_name j) (get (codes "changes") j)

-- the row for a row that only one file has, with its key and the line at which it begins
unfoldable pub lone_row : List ℕ → List ℕ → List ℕ → Json → List ℕ
lone_row before between behind j = before ++ pairs_cell (get (codes "key") j) ++ between
    ++ number_cell (codes "line") j ++ behind

-- the row for a row that only the left file has
abbrev pub removed_row : Json → List ℕ
removed_row = lone_row (codes "| removed | ") (codes " | | line ") (codes " | |\n")

-- the row for a row that only the right file has
abbrev pub added_row : Json → List ℕ
added_row = lone_row (codes "| added | ") (codes " | | | line ") (codes " |\n")

-- the cells that say which side lacks a column
abbrev pub lacking : List ℕ → List ℕ
lacking only_in =
    if bytes_eq only_in (codes "left") then codes " | | missing |\n" else codes " | missing | |\n"

-- the row for a column that only one file has
unfoldable pub column_row : Json → List ℕ
column_row j = codes "| column | | " ++ name_cell (string_at (codes "column") j)
    ++ lacking (string_at (codes "only_in") j)
