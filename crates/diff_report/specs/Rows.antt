-- The names of rows.
--
-- With the columns id, day and city and the keys id and day, the row 4411, mon, Oslo is named by
-- id=4411,day=mon. Without keys the second row is named by row 2.
use Rattle.std.specs.Fmt.{decimal}
use Rattle.std.specs.Prelude.{ℕ, ◌+◌, ◌==◌, if◌then◌else◌, List, [], ◌∷◌, ◌++◌, length, map, get_or}
use Rattle.std.specs.Prelude.{codes}
use Rattle.diff_words.specs.Lists.{listed}
use Rattle.diff_words.specs.Words.{word_text}
use Rattle.diff_report.specs.Naming.{Naming}

-- a column and the row's cell in it
abbrev pub key_text : Naming → List (List ℕ) → ℕ → List ℕ
key_text n cells column = word_text (get_or n.names column []) ++ 61 ∷ []
    ++ word_text (get_or cells column [])

-- the key columns and the cells in them, or the number of the row, from 1 on, if there are no keys
unfoldable pub row_text : Naming → ℕ → List (List ℕ) → List ℕ
row_text n i cells = if length n.keys == 0 then codes "row "
    ++ decimal (i + 1) else listed (codes ",") (map (key_text n cells) n.keys)
