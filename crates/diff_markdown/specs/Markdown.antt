-- A report as Markdown: a line with the counts, and a table of the differences.
--
-- With the one line {"kind":"counts","changed":0,"removed":0,"added":0,"same":4,"not_shown":0} the
-- report of a.csv and b.csv is `a.csv` and `b.csv`: 0 changed, 0 removed, 0 added, 4 the same.
use Rattle.std.specs.List.{flat_map}
use Rattle.std.specs.Prelude.{ℕ, ◌==◌, if◌then◌else◌, List, [], ◌++◌, length, codes, Option, Some}
use Rattle.std.specs.Prelude.{None}
use Rattle.std.specs.Str.Lines.{lines}
use Rattle.json.specs.Json.{Json}
use Rattle.diff_lines.specs.declared.line.Kind.{Kind}
use Rattle.diff_lines.specs.declared.line.Kind.TheVariants.{Column, Changed, Removed, Added, Counts}
use Rattle.diff_lines.specs.Lines.{line_of}
use Rattle.diff_markdown.specs.Cells.{name_cell}
use Rattle.diff_markdown.specs.Counts.{counts_text}
use Rattle.diff_markdown.specs.Rows.{added_row, changed_rows, column_row, removed_row}

-- the rows that a line adds to the table
abbrev pub rows_by : Kind → Json → List ℕ
rows_by Column j = column_row j
rows_by Changed j = changed_rows j
rows_by Removed j = removed_row j
rows_by Added j = added_row j
rows_by Counts j = []

-- the text that a line adds to the head
abbrev pub counts_by : Kind → Json → List ℕ
counts_by Column j = []
counts_by Changed j = []
counts_by Removed j = []
counts_by Added j = []
counts_by Counts j = counts_text j

-- the rows of a line that is read, if it is one
abbrev pub rows_in : Option (Kind × Json) → List ℕ
rows_in None = []
rows_in (Some p) = rows_by p.0 p.1

-- the counts of a line that is read, if it is one
abbrev pub counts_in : Option (Kind × Json) → List ℕ
counts_in None = []
counts_in (Some p) = counts_by p.0 p.1

-- the rows of some lines
abbrev pub rows_of : List (List ℕ) → List ℕ
rows_of = flat_map (λ l. rows_in (line_of l))

-- the counts in some lines
abbrev pub counts_of : List (List ℕ) → List ℕ
counts_of = flat_map (λ l. counts_in (line_of l))

-- a table of these rows, if there are any
abbrev pub table : List ℕ → List ℕ
table rows = if length rows ==
    0 then [] else codes "\n| | Key | Part | Left | Right |\n|---|---|---|---|---|\n" ++ rows

-- a report of two files as Markdown
unfoldable pub markdown_of : List ℕ → List ℕ → List ℕ → List ℕ
markdown_of left right report = name_cell left ++ codes " and " ++ name_cell right
    ++ counts_of (lines report) ++ codes "\n" ++ table (rows_of (lines report))
