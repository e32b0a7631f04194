use Rattle.std.proofs.Common.{◌∙◌, sym}
use Rattle.polars_tables_lines.proofs.Cuts.{lines_of-cut, lines_of-rest}
use Rattle.polars_tables_lines.proofs.running.split_line.Goals as goal

pub returns-in-Some-clause-lines : goal.returns-in-Some-clause-lines
returns-in-Some-clause-lines c = lines_of-cut c.args.text.now c.in-Some.end (sym c.line_end.ensures ∙ c.in-Some.is)

pub returns-in-None-clause-lines : goal.returns-in-None-clause-lines
returns-in-None-clause-lines c = lines_of-rest c.args.text.now (sym c.line_end.ensures ∙ c.in-None.is) c.requires
