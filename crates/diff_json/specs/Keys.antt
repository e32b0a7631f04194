-- The key columns of rows. A cell of a key is a string, also where it is the one that stands for no
-- value.
--
-- With the columns id, day and city and the keys id and day, the row 4411, mon, Oslo has
-- "id":"4411","day":"mon".
use Rattle.std.specs.Prelude.{ℕ, List, [], ◌∷◌, ◌++◌, map, get_or, codes}
use Rattle.diff_words.specs.Lists.{listed}
use Rattle.diff_report.specs.Naming.{Naming}
use Rattle.diff_json.specs.Strings.{json_string}

-- a column and the row's cell in it
abbrev pub key_member : Naming → List (List ℕ) → ℕ → List ℕ
key_member n cells column = json_string (get_or n.names column [])
    ++ 58 ∷ json_string (get_or cells column [])

-- the key columns and the row's cells in them
abbrev pub key_members : Naming → List (List ℕ) → List ℕ
key_members n cells = listed (codes ",") (map (key_member n cells) n.keys)
