-- The lines of a report as JSON lines.
--
-- {"kind":"column","column":"note","only_in":"left"} is a line of the kind Column, and
-- {"kind":"row"} is none.
use Rattle.std.specs.Prelude.{ℕ, if◌then◌else◌, List, codes, Option, Some, None, option_and_then}
use Rattle.std.specs.Prelude.{option_map, All, IsSome}
use Rattle.std.specs.Str.{bytes_eq, IsUtf8}
use Rattle.std.specs.Str.Lines.{lines}
use Rattle.json.specs.Json.{Json, if_last, value}
use Rattle.json.specs.Lex.{tokens}
use Rattle.diff_lines.specs.declared.line.Kind.{Kind}
use Rattle.diff_lines.specs.declared.line.Kind.TheVariants.{Column, Changed, Removed, Added, Counts}
use Rattle.diff_lines.specs.Parts.{string_at}

-- the kind of line that a word names
unfoldable pub kind_named : List ℕ → Option Kind
kind_named word =
    if bytes_eq word (codes "column") then Some Column
    else (if bytes_eq word (codes "changed") then Some Changed
    else (if bytes_eq word (codes "removed") then Some Removed
    else (if bytes_eq word (codes "added") then Some Added
    else (if bytes_eq word (codes "counts") then Some Counts else None))))

-- the greatest depth to which a line may nest: some levels more than for a document, since a
-- document may be a part of a line
abbrev pub most_depth : ℕ
most_depth = 256

-- the JSON value of a line
abbrev pub line_value : List ℕ → Option Json
line_value line = option_and_then (λ p. if_last p.0 p.1) (value most_depth (tokens line))

-- the kind of a line and its value, where it is JSON with a kind
unfoldable pub line_of : List ℕ → Option (Kind × Json)
line_of line = option_and_then
    (λ j. option_map (λ k. (k, j)) (kind_named (string_at (codes "kind") j))) (line_value line)

-- a text is a report: each line is JSON with a kind
pub record IsReport (text : List ℕ) : Type 0 where
  pub utf8 : IsUtf8 text
  pub each : All (λ l. IsSome (line_of l)) (lines text)
