-- Laws of reports in aligned columns.
use Rattle.std.specs.List.{list_all}
use Rattle.std.specs.Prelude.{◌≡◌, ℕ, ◌≤◌, true, not, All, List}
use Rattle.diff_aligned.specs.Aligned.{row_lines}
use Rattle.diff_widths.specs.Cut.{cut, padded, width}
use Rattle.diff_aligned.specs.Paragraphs.{paragraph}
use Rattle.diff_aligned.specs.Pieces.{line_text}
use Rattle.diff_aligned.specs.Rows.{Cells}
use Rattle.diff_aligned.specs.Shown.{is_hidden, text_of}

-- the least width of a terminal
abbrev pub least_width : ℕ
least_width = 40

-- no line of a row is wider than the terminal
abbrev pub RowsHaveRoom : Type 0
RowsHaveRoom = (n : ℕ) (rows : List Cells) → least_width ≤ n
    → All (λ line. width (line_text line) ≤ n) (row_lines n rows)

-- no line of words is wider than the terminal
abbrev pub ParagraphsHaveRoom : Type 0
ParagraphsHaveRoom = (n : ℕ) (words : List (List ℕ))
    → All (λ line. width line ≤ n) (paragraph n words)

-- no character of a text is a control character, or another one that is hidden
abbrev pub TextsAreShown : Type 0
TextsAreShown = (bytes : List ℕ) → list_all (λ c. not (is_hidden c)) (text_of bytes) ≡ true

-- a text that is cut has room
abbrev pub CutsHaveRoom : Type 0
CutsHaveRoom = (room : ℕ) (text : List ℕ) → width (cut room text) ≤ room

-- a text that is cut or filled up takes exactly its room
abbrev pub PaddedFill : Type 0
PaddedFill = (room : ℕ) (text : List ℕ) → width (padded room text) ≡ room

-- a text that has room is not cut
abbrev pub WholeWhereRoom : Type 0
WholeWhereRoom = (room : ℕ) (text : List ℕ) → width text ≤ room → cut room text ≡ text
