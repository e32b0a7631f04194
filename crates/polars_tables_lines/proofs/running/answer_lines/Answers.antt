use Rattle.std.specs.Result.{is_err}
use Rattle.polars_tables_lines.specs.Output.{meaning_of}
use Rattle.polars_tables_lines.proofs.Added.{text_left, lines_left, refusals_left, few_lines, few_refusals}
use Rattle.polars_tables_lines.proofs.running.answer_lines.Goals as goal

pub loop-rest-preserved : goal.loop-rest-preserved
loop-rest-preserved c =
    let was = c.loop-rest.invariant in
    let cut = c.split_line.ensures in
    let added = c.in_ok-add.ensures.added in
    record {
      text = text_left _ _ _ _ _ _ _ _ cut.lines added.lines added.text was.text;
      lines = lines_left _ _ _ _ _ _ cut.lines added.lines was.lines;
      refused = refusals_left _ _ _ _ _ _ cut.lines added.refused was.refused;
      few_lines = few_lines _ _ _ _ _ added.lines cut.shorter was.few_lines;
      few_refused = few_refusals (is_err (meaning_of c.split_line.result.0.now)) _ _ _ _ added.refused added.lines was.few_refused;
    }
