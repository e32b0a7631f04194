-- The columns in which two rows differ.
--
-- With the columns id and city the rows 7, Oslo and 7, Bergen differ in column 1, as city "Oslo" ->
-- "Bergen".
use Rattle.std.specs.List.{range_with_len}
use Rattle.std.specs.Prelude.{ℕ, Bool, not, List, [], ◌∷◌, ◌++◌, filter, get_or, length, codes}
use Rattle.std.specs.Str.{bytes_eq}
use Rattle.diff_words.specs.Cells.{cell_text}
use Rattle.diff_words.specs.Colors.{painted}
use Rattle.diff_words.specs.Words.{word_text}
use Rattle.diff_words.specs.declared.colors.Color.TheVariants.{Red, Green}
use Rattle.diff_report.specs.Naming.{Naming}
use Rattle.diff_report.specs.Sides.{compared_left, compared_right, naming_of}
use Rattle.diff_report.specs.declared.sides.Sides.{Sides}

-- two rows differ in a column
abbrev pub differ_at : List (List ℕ) → List (List ℕ) → ℕ → Bool
differ_at left right column = not (bytes_eq (get_or left column []) (get_or right column []))

-- the columns among the first ones in which two rows differ
abbrev pub columns_apart : ℕ → List (List ℕ) → List (List ℕ) → List ℕ
columns_apart width left right = filter (differ_at left right) (range_with_len 0 width)

-- left row i and right row j differ in a column, by what their cells are compared by
abbrev pub is_apart : Sides → ℕ → ℕ → ℕ → Bool
is_apart s i j column =
    differ_at (get_or (compared_left s) i []) (get_or (compared_right s) j []) column

-- the columns in which left row i and right row j differ
abbrev pub columns_of : Sides → ℕ → ℕ → List ℕ
columns_of s i j =
    columns_apart (length (naming_of s).names) (get_or (compared_left s) i [])
    (get_or (compared_right s) j [])

-- the name of a column, and the two cells in it
abbrev pub change_text : Naming → List (List ℕ) → List (List ℕ) → ℕ → List ℕ
change_text n left right column = word_text (get_or n.names column []) ++ 32 ∷ []
    ++ painted n.colored Red (cell_text n.null (get_or left column []))
    ++ codes " -> " ++ painted n.colored Green (cell_text n.null (get_or right column []))
