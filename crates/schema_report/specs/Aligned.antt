-- Tables of words, whose columns stand one under another.
--
-- The rows "id", "type" and "amount", "text" are the lines `id      type` and `amount  text`.
use Rattle.std.specs.List.{count_by}
use Rattle.std.specs.Prelude.{ℕ, zero, suc, ◌+◌, ◌-◌, Bool, ◌||◌, nat_lt, max, if◌then◌else◌, List}
use Rattle.std.specs.Prelude.{[], ◌∷◌, ◌++◌, length, get_or, replicate, codes}

-- a byte is the first one of a character
abbrev pub begins : ℕ → Bool
begins byte = nat_lt byte 128 || nat_lt 191 byte

-- how many characters a text has
abbrev pub glyphs : List ℕ → ℕ
glyphs text = count_by begins text

-- how many characters the longest cell of a column has, in the first n rows
abbrev pub widest : ℕ → List (List (List ℕ)) → ℕ → ℕ
widest column rows zero = 0
widest column rows (suc n) =
    max (glyphs (get_or (get_or rows n []) column [])) (widest column rows n)

-- a cell, and the blanks between it and the next of w columns
abbrev pub aligned_cell : List (List (List ℕ)) → ℕ → ℕ → List ℕ → List ℕ
aligned_cell rows w column cell = cell
    ++ (if nat_lt (column + 1) w then replicate (widest column rows (length rows) - glyphs cell) 32
    ++ codes "  " else [])

-- the first n cells of a row
abbrev pub line_to : List (List (List ℕ)) → ℕ → List (List ℕ) → ℕ → List ℕ
line_to rows w row zero = []
line_to rows w row (suc n) = line_to rows w row n ++ aligned_cell rows w n (get_or row n [])

-- the lines of the first n rows
abbrev pub lines_to : List (List (List ℕ)) → ℕ → ℕ → List ℕ
lines_to rows w zero = []
lines_to rows w (suc n) = lines_to rows w n ++ line_to rows w (get_or rows n []) w ++ 10 ∷ []

-- the lines of all rows of w cells
abbrev pub aligned : ℕ → List (List (List ℕ)) → List ℕ
aligned w rows = lines_to rows w (length rows)
