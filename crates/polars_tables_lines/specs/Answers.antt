-- The output of one more line.
use Rattle.std.specs.Prelude.{◌≡◌, ℕ, ◌+◌, List, [], ◌∷◌, ◌++◌, if◌then◌else◌}
use Rattle.std.specs.Result.{is_err}
use Rattle.std.specs.String.{string_bytes}
use Rattle.polars_tables_lines.specs.declared.running.Answers.{Answers}
use Rattle.polars_tables_lines.specs.Output.{meaning_of, printed}

-- the output after one more line: its text and a line feed are appended, and it is counted
pub record AddsLine (old new : Answers) (line : List ℕ) : Type 0 where
  pub text : string_bytes new.text ≡ string_bytes old.text
      ++ (printed (old.report.lines + 1) (meaning_of line) ++ 10 ∷ [])
  pub lines : new.report.lines ≡ old.report.lines + 1
  pub refused : new.report.refused
      ≡ old.report.refused + (if is_err (meaning_of line) then 1 else 0)
