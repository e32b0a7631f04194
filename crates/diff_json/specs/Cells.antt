-- Cells.
--
-- Where the cell NA stands for no value, it is written as null, and NB as "NB" with its quotes.
use Rattle.std.specs.Prelude.{ℕ, if◌then◌else◌, List, Option, codes}
use Rattle.diff_words.specs.Cells.{is_null}
use Rattle.diff_json.specs.Strings.{json_string}

-- a cell as a string, or null where it stands for no value
unfoldable pub json_cell : Option (List ℕ) → List ℕ → List ℕ
json_cell null cell = if is_null null cell then codes "null" else json_string cell
