-- Strings and lines, as a reader of JSON reads them. U+FFFD stands for bytes that are not UTF-8.
--
-- The line {"kind":"column","column":"note","only_in":"left"} is read as an object of three
-- strings.
use Rattle.std.specs.Fmt.{decimal}
use Rattle.std.specs.Prelude.{ℕ, ◌-◌, if◌then◌else◌, List, [], ◌∷◌, Option, length, get_or}
use Rattle.std.specs.Prelude.{slice_index, codes}
use Rattle.std.specs.Str.Lossy.{utf8_lossy}
use Rattle.json.specs.Json.{Json, null, number, string, object, Members, no_members, member}
use Rattle.diff_columns.specs.Errors.{word_of}
use Rattle.diff_columns.specs.declared.error.Side.{Side}
use Rattle.diff_tables.specs.declared.compare.Comparison.{Comparison}
use Rattle.diff_words.specs.Cells.{is_null}
use Rattle.diff_report.specs.Naming.{Naming}
use Rattle.diff_report.specs.Summary.{columns_counted}
use Rattle.diff_json.specs.Counts.{difference_count}

-- a member for each element of a list, by the names and the values of the elements
abbrev pub members_of : {X : Type 0} → (X → List ℕ) → (X → Json) → List X → Members
members_of name value [] = no_members
members_of name value (x ∷ xs) = member (utf8_lossy (name x)) (value x) (members_of name value xs)

-- a number
abbrev pub number_value : ℕ → Json
number_value n = number (decimal n)

-- a cell: null where it stands for no value, and else a string
abbrev pub cell_value : Option (List ℕ) → List ℕ → Json
cell_value null_word cell = if is_null null_word cell then null else string (utf8_lossy cell)

-- the key columns and the row's cells in them
abbrev pub key_value : Naming → List (List ℕ) → Json
key_value n cells =
    object (members_of (λ column. get_or n.names column [])
    (λ column. string (utf8_lossy (get_or cells column []))) n.keys)

-- the two cells in a column
abbrev pub change_value : Naming → List (List ℕ) → List (List ℕ) → ℕ → Json
change_value n left right column =
    object (member (codes "left") (cell_value n.null (get_or left column []))
    (member (codes "right") (cell_value n.null (get_or right column [])) no_members))

-- some columns, with the cells of two rows in them
abbrev pub changes_value : Naming → List ℕ → List (List ℕ) → List (List ℕ) → Json
changes_value n columns left right =
    object (members_of (λ column. get_or n.names column []) (change_value n left right) columns)

-- two rows of these numbers that differ in some columns
abbrev pub pair_value : Naming → List ℕ → ℕ → ℕ → List (List ℕ) → ℕ → ℕ → List (List ℕ) → Json
pair_value n columns i left_line left j right_line right =
    object (member (codes "kind") (string (codes "changed"))
    (member (codes "key") (key_value n left)
    (member (codes "left_row") (number_value i) (member (codes "right_row") (number_value j)
    (member (codes "left_line") (number_value left_line)
    (member (codes "right_line") (number_value right_line)
    (member (codes "changes") (changes_value n columns left right) no_members)))))))

-- a row of this number that only one side has
abbrev pub row_value : List ℕ → Naming → ℕ → ℕ → List (List ℕ) → Json
row_value kind n i line cells =
    object (member (codes "kind") (string kind) (member (codes "key") (key_value n cells)
    (member (codes "row") (number_value i) (member (codes "line") (number_value line) no_members))))

-- a column that only one input has
abbrev pub column_value : Side → List ℕ → Json
column_value side name =
    object (member (codes "kind") (string (codes "column"))
    (member (codes "column") (string (utf8_lossy name))
    (member (codes "only_in") (string (word_of side)) no_members)))

-- the columns with a count that is not 0, and their counts
abbrev pub columns_value : Naming → List ℕ → Json
columns_value n counts =
    object (members_of (λ column. get_or n.names column [])
    (λ column. number_value (slice_index counts column)) (columns_counted counts))

-- the counts
abbrev pub counts_value : Naming → Comparison → List ℕ → ℕ → Json
counts_value n c counts limit =
    object (member (codes "kind") (string (codes "counts"))
    (member (codes "changed") (number_value (length c.changed.items))
    (member (codes "removed") (number_value (length c.matching.removed.items))
    (member (codes "added") (number_value (length c.matching.added.items))
    (member (codes "same")
    (number_value (length c.matching.left_rows.items - length c.changed.items))
    (member (codes "not_shown") (number_value (difference_count c - limit))
    (member (codes "columns") (columns_value n counts) no_members)))))))
