-- The rows of a report: one for each part that differs, and one for each row that one file has
-- alone.
--
-- {"kind":"removed","key":{"id":"2"},"row":2,"line":3} is a row with the key id="2" and the note
-- old.csv line 3.
use Rattle.std.specs.Prelude.{ℕ, List, [], ◌∷◌, ◌++◌, codes, Option, Some, None, option_and_then}
use Rattle.std.specs.Prelude.{map}
use Rattle.json.specs.Find.{as_array, as_object, get}
use Rattle.json.specs.Json.{Json, Items, no_items, item, Members, no_members, member}
use Rattle.diff_aligned.specs.declared.rows.Mark.{Mark}
use Rattle.diff_aligned.specs.declared.rows.Row.{Row}
use Rattle.diff_aligned.specs.declared.rows.Mark.TheVariants.{Changed, Again}
use Rattle.diff_aligned.specs.Texts.{name_text, number_text, pairs_text, row_name, side_text}
use Rattle.diff_lines.specs.Parts.{string_at}

-- the content of a row: after the key either a note, or a part and its two sides
pub record Cells : Type 0 where
  pub mark : Mark
  pub key : List ℕ
  pub part : List ℕ
  pub left : List ℕ
  pub right : List ℕ
  pub note : List ℕ

-- the row of a part that differs
unfoldable pub change_row : Mark → List ℕ → List ℕ → Json → Cells
change_row mark key part change =
    record {
      mark = mark;
      key = key;
      part = name_text part;
      left =
          side_text (get (codes "left") change);
      right =
          side_text (get (codes "right") change);
      note = [];
    }

-- the rows of parts that stand under their names: the key stands in the first one alone
abbrev pub member_rows : Mark → List ℕ → Members → List Cells
member_rows mark key no_members = []
member_rows mark key (member part change rest) =
    change_row mark key part change ∷ member_rows Again [] rest

-- the rows of parts that have their paths with them
abbrev pub item_rows : Mark → List ℕ → Items → List Cells
item_rows mark key no_items = []
item_rows mark key (item change rest) =
    change_row mark key (string_at (codes "path") change) change ∷ item_rows Again [] rest

-- the rows of the parts of an object, if there is one
abbrev pub rows_in_object : List ℕ → Option Members → List Cells
rows_in_object key None = []
rows_in_object key (Some changes) = member_rows Changed key changes

-- the rows of the parts of an array, if there is one
abbrev pub rows_in_array : List ℕ → Option Items → List Cells
rows_in_array key None = []
rows_in_array key (Some changes) = item_rows Changed key changes

-- the rows of the parts of a row that differ: those of a table are an object, and those of
-- documents an array
unfoldable pub changed_rows : Json → List Cells
changed_rows j =
    rows_in_object (row_name j) (option_and_then as_object (get (codes "changes") j))
    ++ rows_in_array (row_name j) (option_and_then as_array (get (codes "changes") j))

-- the row for a row that only this file has, with the line at which that begins
unfoldable pub lone_row : Mark → List ℕ → Json → Cells
lone_row mark file j =
    record {
      mark = mark;
      key = pairs_text (get (codes "key") j);
      part = [];
      left = [];
      right =
          [];
      note = name_text file ++ codes " line " ++ number_text (codes "line") j;
    }

-- a row as it is kept
abbrev pub row_view : Row → Cells
row_view r = record {
  mark = r.mark;
  key = r.key.items;
  part = r.part.items;
  left = r.left.items;
  right =
      r.right.items;
  note = r.note.items;
}

-- rows as they are kept
abbrev pub rows_view : List Row → List Cells
rows_view = map row_view
