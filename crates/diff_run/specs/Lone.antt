-- Columns that only one of two inputs has.
--
-- ! column note only in old.csv
use Rattle.std.specs.List.{flat_map}
use Rattle.std.specs.Prelude.{ℕ, List, [], ◌∷◌, ◌++◌, get_or, codes}
use Rattle.diff_columns.specs.declared.error.Side.{Side}
use Rattle.diff_json.specs.Columns.{column_object}
use Rattle.diff_words.specs.declared.formats.Format.{Format}
use Rattle.diff_words.specs.declared.formats.Format.TheVariants.{Text, Json}
use Rattle.diff_words.specs.Words.{word_text}

-- the line of a column that only one input has, in text
unfoldable pub lone_line : List ℕ → List ℕ → List ℕ
lone_line input name = codes "! column " ++ word_text name ++ codes " only in " ++ word_text input
    ++ 10 ∷ []

-- the line of a column that only the input on this side has
abbrev pub alone_line : Format → Side → List ℕ → List ℕ → List ℕ
alone_line Text side input name = lone_line input name
alone_line Json side input name = column_object side name

-- a line for each of some columns
abbrev pub alone_lines : Format → Side → List ℕ → List (List ℕ) → List ℕ → List ℕ
alone_lines format side input names columns = flat_map
    (λ c. alone_line format side input (get_or names c [])) columns
