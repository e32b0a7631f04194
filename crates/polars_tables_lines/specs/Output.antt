-- The output for an input of lines.
use Rattle.std.specs.Prelude.{◌≡◌, ℕ, ◌+◌, ◌==◌, if◌then◌else◌, List, [], ◌∷◌, ◌++◌, length, codes}
use Rattle.std.specs.Prelude.{Result, Ok, Err}
use Rattle.std.specs.Result.{is_err}
use Rattle.std.specs.List.{slice_split}
use Rattle.std.specs.Str.{is_utf8}
use Rattle.std.specs.Fmt.{decimal}
use Rattle.polars_tables_rows.specs.declared.fault.LineError.{LineError}
use Rattle.polars_tables_rows.specs.declared.fault.LineError.TheVariants.{Op, TypeName, Row, Length}
use Rattle.polars_tables_rows.specs.declared.fault.LineError.TheVariants.{Range, Memory}
use Rattle.polars_tables_lines.specs.declared.running.Report.{Report}
use Rattle.polars_tables_lines.specs.Line.{line_meaning}

-- parts between line feeds; the last is a line only if it is not empty
abbrev pub whole_lines : List (List ℕ) → List (List ℕ)
whole_lines [] = []
whole_lines (rest ∷ []) = if length rest == 0 then [] else rest ∷ []
whole_lines (line ∷ next ∷ more) = line ∷ whole_lines (next ∷ more)

-- the lines of an input
abbrev pub lines_of : List ℕ → List (List ℕ)
lines_of input = whole_lines (slice_split (λ c. c == 10) input)

-- the meaning of a line of bytes; one that is not UTF-8 names no operation
abbrev pub meaning_of : List ℕ → Result (List ℕ) LineError
meaning_of line = if is_utf8 line then line_meaning line else Err Op

-- the word that a fault is printed as
abbrev pub fault_word : LineError → List ℕ
fault_word Op = codes "op"
fault_word TypeName = codes "type"
fault_word Row = codes "row"
fault_word Length = codes "length"
fault_word Range = codes "range"
fault_word Memory = codes "memory"

-- the output line of a refused line, without its line feed
abbrev pub refusal : ℕ → LineError → List ℕ
refusal number fault = codes "line " ++ decimal number ++ codes ": refused: " ++ fault_word fault

-- the output line of line `number`, without its line feed
abbrev pub printed : ℕ → Result (List ℕ) LineError → List ℕ
printed number (Ok text) = text
printed number (Err fault) = refusal number fault

-- the output of lines, given the number of the first one
abbrev pub output_from : ℕ → List (List ℕ) → List ℕ
output_from number [] = []
output_from number (line ∷ more) = printed number (meaning_of line)
    ++ 10 ∷ output_from (number + 1) more

-- the output for an input: for each line its text and a line feed
abbrev pub output_of : List ℕ → List ℕ
output_of input = output_from 1 (lines_of input)

-- the number of refused lines
abbrev pub refusals : List (List ℕ) → ℕ
refusals [] = 0
refusals (line ∷ more) = (if is_err (meaning_of line) then 1 else 0) + refusals more

-- the report has the number of lines of the input, and the number of refused ones
pub record Reports (input : List ℕ) (report : Report) : Type 0 where
  pub lines : report.lines ≡ length (lines_of input)
  pub refused : report.refused ≡ refusals (lines_of input)
