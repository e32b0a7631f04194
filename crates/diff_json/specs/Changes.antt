-- The columns in which two rows differ.
--
-- With the columns id and city the rows 7, Oslo and 7, Bergen have
-- "city":{"left":"Oslo","right":"Bergen"}.
use Rattle.std.specs.Prelude.{ℕ, List, [], ◌++◌, map, get_or, codes}
use Rattle.diff_words.specs.Lists.{listed}
use Rattle.diff_report.specs.Naming.{Naming}
use Rattle.diff_json.specs.Cells.{json_cell}
use Rattle.diff_json.specs.Strings.{json_string}

-- the name of a column, and the two cells in it
abbrev pub change_member : Naming → List (List ℕ) → List (List ℕ) → ℕ → List ℕ
change_member n left right column = json_string (get_or n.names column []) ++ codes ":{\"left\":"
    ++ json_cell n.null (get_or left column [])
    ++ codes ",\"right\":" ++ json_cell n.null (get_or right column []) ++ codes "}"

-- some columns, with the cells of two rows in them
abbrev pub change_members : Naming → List ℕ → List (List ℕ) → List (List ℕ) → List ℕ
change_members n columns left right = listed (codes ",") (map (change_member n left right) columns)
