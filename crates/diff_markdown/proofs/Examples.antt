-- Worked examples of the definitions.
use Rattle.std.specs.Prelude.{◌≡◌, ◌++◌, [], ◌∷◌, Some, codes, refl}
use Rattle.json.specs.Json.{Json, null, number, string, array, object, no_items, item, no_members, member}
use Rattle.json.specs.Print.{escape_byte, print_from}
use Rattle.diff_lines.specs.Parts.{number_at, string_at}
use Rattle.diff_markdown.specs.Cells.{name_text, pair_cell, pairs_cell, value_text}
use Rattle.diff_markdown.specs.Counts.{counts_text, kinds_text, skipped_note}
use Rattle.diff_markdown.specs.Escapes.{safe, safe_byte}
use Rattle.diff_markdown.specs.Markdown.{rows_by, table}
use Rattle.diff_markdown.specs.Rows.{change_row, change_rows, column_row, lone_row, row_name}
use Rattle.diff_lines.specs.declared.line.Kind.TheVariants.{Column, Changed, Removed, Added}

-- a bar and a backquote
marks : safe (codes "\"a|b`c\"") ≡ codes "\"a\\u007cb\\u0060c\""
unfolding safe safe_byte
marks = refl

-- U+0085 after an a, and a degree sign
high : safe (97 ∷ 194 ∷ 133 ∷ 194 ∷ 176 ∷ []) ≡ codes "a\\u0085" ++ 194 ∷ 176 ∷ []
unfolding safe safe_byte
high = refl

-- names
word : name_text (codes "items[1].price") ≡ codes "items[1].price"
unfolding name_text safe safe_byte
word = refl

two-words : name_text (codes "unit price") ≡ codes "\"unit price\""
unfolding name_text value_text safe safe_byte print_from escape_byte
two-words = refl

barred : name_text (codes "a|b") ≡ codes "\"a\\u007cb\""
unfolding name_text value_text safe safe_byte print_from escape_byte
barred = refl

-- a key of two parts
key : pairs_cell (Some (object (member (codes "id") (string (codes "1")) (member (codes "day") (number (codes "2")) no_members)))) ≡ codes "`id=\"1\"`, `day=2`"
unfolding pairs_cell pair_cell name_text value_text safe safe_byte print_from escape_byte
key = refl

-- the change of a column, with its row
abbrev oslo : Json
oslo = object (member (codes "left") (string (codes "Oslo")) (member (codes "right") null no_members))

changed : change_row (codes "`id=\"1\"`") (codes "city") oslo ≡ codes "| changed | `id=\"1\"` | `city` | `\"Oslo\"` | `null` |\n"
unfolding change_row name_text value_text safe safe_byte print_from escape_byte
changed = refl

-- a row without a key, of which a part is missing on the left
abbrev from : Json
from = object (member (codes "path") (string (codes "from")) (member (codes "right") (string (codes "Oslo")) no_members))

abbrev unnamed : Json
unnamed =
    object (member (codes "kind") (string (codes "changed")) (member (codes "key") (object no_members) (member (codes "left_line") (number (codes "4")) (member (codes "right_line") (number (codes "3"))
    (member (codes "changes") (array (item from no_items)) no_members)))))

missing : rows_by Changed unnamed ≡ codes "| changed | lines 4 and 3 | `from` | missing | `\"Oslo\"` |\n"
unfolding change_rows change_row row_name number_at string_at pairs_cell pair_cell name_text value_text safe safe_byte print_from escape_byte
missing = refl

-- rows that one file has alone
abbrev alone : Json
alone = object (member (codes "key") (object (member (codes "id") (string (codes "2")) no_members)) (member (codes "line") (number (codes "3")) no_members))

removed : rows_by Removed alone ≡ codes "| removed | `id=\"2\"` | | line 3 | |\n"
unfolding lone_row number_at pairs_cell pair_cell name_text value_text safe safe_byte print_from escape_byte
removed = refl

added : rows_by Added alone ≡ codes "| added | `id=\"2\"` | | | line 3 |\n"
unfolding lone_row number_at pairs_cell pair_cell name_text value_text safe safe_byte print_from escape_byte
added = refl

-- a column that the left file has alone
column : rows_by Column (object (member (codes "column") (string (codes "note")) (member (codes "only_in") (string (codes "left")) no_members))) ≡ codes "| column | | `note` | | missing |\n"
unfolding column_row string_at name_text safe safe_byte
column = refl

-- counts, with a column, lines passed over and differences left out
abbrev counts : Json
counts =
    object (member (codes "changed") (number (codes "1")) (member (codes "removed") (number (codes "2")) (member (codes "added") (number (codes "0")) (member (codes "same") (number (codes "5"))
    (member (codes "not_shown") (number (codes "7")) (member (codes "columns") (object (member (codes "city") (number (codes "1")) no_members)) (member (codes "left_skipped") (number (codes "2"))
    (member (codes "right_skipped") (number (codes "0")) no_members))))))))

counted : counts_text counts ≡ codes ": 1 changed, 2 removed, 0 added, 5 the same. By column: `city=1`. Skipped lines: 2 left, 0 right. Not shown: 7 more."
unfolding counts_text kinds_text skipped_note number_at pairs_cell pair_cell name_text value_text safe safe_byte print_from escape_byte
counted = refl

-- no table without a row
no-table : table [] ≡ []
no-table = refl
