use Rattle.std.proofs.Common.{◌≡◌, ◌+◌, ◌≤◌, ◌++◌, length}
use Rattle.std.specs.String.{string_bytes}
use Rattle.polars_tables_lines.specs.Output.{lines_of, output_from, output_of, refusals}
use Rattle.polars_tables_lines.proofs.running.answer_lines.Given as goal

abbrev pub invariant-loop-rest : goal.invariant-loop-rest
invariant-loop-rest l = record {
  text : string_bytes l.answers.text ++ output_from (l.answers.report.lines + 1) (lines_of l.rest) ≡ output_of l.input;
  lines : l.answers.report.lines + length (lines_of l.rest) ≡ length (lines_of l.input);
  refused : l.answers.report.refused + refusals (lines_of l.rest) ≡ refusals (lines_of l.input);
  few_lines : l.answers.report.lines + length l.rest ≤ length l.input;
  few_refused : l.answers.report.refused ≤ l.answers.report.lines;
}

abbrev pub decreases-loop-rest : goal.decreases-loop-rest
decreases-loop-rest l = length l.rest
