-- The texts of cells.
--
-- Where the cell NA stands for no value, its text is null, and that of NB is "NB" with its quotes.
use Rattle.std.specs.Prelude.{ℕ, Bool, false, if◌then◌else◌, List, Option, Some, None, codes}
use Rattle.std.specs.Str.{bytes_eq}
use Rattle.diff_words.specs.Quoted.{quoted}

-- a cell is the one that stands for no value, where there is one
abbrev pub is_null : Option (List ℕ) → List ℕ → Bool
is_null (Some word) cell = bytes_eq word cell
is_null None cell = false

-- a cell between quotes, or the word null where it stands for no value
unfoldable pub cell_text : Option (List ℕ) → List ℕ → List ℕ
cell_text null cell = if is_null null cell then codes "null" else quoted cell
