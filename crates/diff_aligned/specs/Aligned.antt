-- A report in aligned columns, no wider than the terminal.
--
-- In 40 columns the one line
-- {"kind":"counts","changed":0,"removed":0,"added":0,"same":4,"not_shown":0} is
-- 0 changed, 0 removed, 0 added,
-- 4 the same.
use Rattle.std.specs.List.{flat_map}
use Rattle.std.specs.Prelude.{ℕ, ◌-◌, List, [], ◌∷◌, ◌++◌, Option, Some, None, map}
use Rattle.std.specs.Str.Lines.{lines}
use Rattle.json.specs.Json.{Json}
use Rattle.diff_aligned.specs.Counts.{column_lines, counts_lines}
use Rattle.diff_aligned.specs.Pieces.{Piece, lines_bytes, plain_line, row_pieces}
use Rattle.diff_aligned.specs.Rooms.{gaps, needed, no_rooms, rooms_in}
use Rattle.diff_aligned.specs.Rows.{Cells, changed_rows, lone_row}
use Rattle.diff_aligned.specs.declared.aligned.Sheet.{Sheet}
use Rattle.diff_aligned.specs.declared.rooms.Rooms.{Rooms}
use Rattle.diff_aligned.specs.declared.rows.Mark.TheVariants as marks
use Rattle.diff_lines.specs.Lines.{line_of}
use Rattle.diff_lines.specs.declared.line.Kind.{Kind}
use Rattle.diff_lines.specs.declared.line.Kind.TheVariants.{Column, Changed, Removed, Added, Counts}

-- the rows of a line
abbrev pub rows_by : Sheet → Kind → Json → List Cells
rows_by t Column j = []
rows_by t Changed j = changed_rows j
rows_by t Removed j = lone_row marks.Removed t.left.now j ∷ []
rows_by t Added j = lone_row marks.Added t.right.now j ∷ []
rows_by t Counts j = []

-- the texts that a line adds before the rows
abbrev pub head_by : Sheet → Kind → Json → List (List ℕ)
head_by t Column j = column_lines t.width t.left.now t.right.now j
head_by t Changed j = []
head_by t Removed j = []
head_by t Added j = []
head_by t Counts j = []

-- the texts that a line adds after the rows
abbrev pub tail_by : Sheet → Kind → Json → List (List ℕ)
tail_by t Column j = []
tail_by t Changed j = []
tail_by t Removed j = []
tail_by t Added j = []
tail_by t Counts j = counts_lines t.width j

-- the texts and rows that a line adds once it is read
abbrev pub given : {A : Type 0} → (Kind → Json → List A) → Option (Kind × Json) → List A
given f None = []
given f (Some p) = f p.0 p.1

-- the texts and rows that lines add
abbrev pub given_by : {A : Type 0} → (Kind → Json → List A) → List (List ℕ) → List A
given_by f = flat_map (λ l. given f (line_of l))

-- the columns of each part of some rows
abbrev pub rooms_for : ℕ → List Cells → Rooms
rooms_for width rows = rooms_in (width - gaps) (needed no_rooms rows)

-- the lines of some rows
unfoldable pub row_lines : ℕ → List Cells → List (List Piece)
row_lines width rows = map (row_pieces (rooms_for width rows)) rows

-- the lines of a report
unfoldable pub aligned_lines : Sheet → List ℕ → List (List Piece)
aligned_lines t report =
    map plain_line (given_by (head_by t) (lines report))
    ++ row_lines t.width (given_by (rows_by t) (lines report))
    ++ map plain_line (given_by (tail_by t) (lines report))

-- a report in aligned columns
abbrev pub aligned_of : Sheet → List ℕ → List ℕ
aligned_of t report = lines_bytes t.colored (aligned_lines t report)
