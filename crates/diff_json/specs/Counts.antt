-- The line with the counts.
--
-- {"kind":"counts","changed":1,"removed":1,"added":1,"same":998999,"not_shown":0,
--  "columns":{"city":1}}
use Rattle.std.specs.Fmt.{decimal}
use Rattle.std.specs.Prelude.{ℕ, ◌+◌, ◌-◌, List, [], ◌∷◌, ◌++◌, length, map, get_or, slice_index}
use Rattle.std.specs.Prelude.{codes}
use Rattle.diff_tables.specs.declared.compare.Comparison.{Comparison}
use Rattle.diff_words.specs.Lists.{listed}
use Rattle.diff_report.specs.Naming.{Naming}
use Rattle.diff_report.specs.Summary.{columns_counted}
use Rattle.diff_json.specs.Strings.{json_string}

-- the number of differences
abbrev pub difference_count : Comparison → ℕ
difference_count c =
    length c.changed.items + length c.matching.removed.items + length c.matching.added.items

-- the numbers of rows that are changed, removed, added and the same, and of differences without a
-- line
unfoldable pub totals_members : ℕ → ℕ → ℕ → ℕ → ℕ → List ℕ
totals_members changed removed added same not_shown = codes "\"changed\":" ++ decimal changed
    ++ codes ",\"removed\":" ++ decimal removed ++ codes ",\"added\":" ++ decimal added
    ++ codes ",\"same\":" ++ decimal same ++ codes ",\"not_shown\":" ++ decimal not_shown

-- the totals of a comparison
abbrev pub totals_of : Comparison → ℕ → List ℕ
totals_of c limit =
    totals_members (length c.changed.items) (length c.matching.removed.items)
    (length c.matching.added.items) (length c.matching.left_rows.items - length c.changed.items)
    (difference_count c - limit)

-- the name of a column, and its count
abbrev pub column_member : List (List ℕ) → List ℕ → ℕ → List ℕ
column_member names counts column = json_string (get_or names column [])
    ++ 58 ∷ decimal (slice_index counts column)

-- the columns with a count that is not 0, and their counts
abbrev pub column_members : List (List ℕ) → List ℕ → List ℕ
column_members names counts =
    listed (codes ",") (map (column_member names counts) (columns_counted counts))

-- the last line: the totals, and the columns in which rows differ
unfoldable pub counts_object : Naming → Comparison → List ℕ → ℕ → List ℕ
counts_object n c counts limit = codes "{\"kind\":\"counts\"," ++ totals_of c limit
    ++ codes ",\"columns\":{" ++ column_members n.names counts ++ codes "}}\n"
