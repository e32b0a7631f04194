use Rattle.diff_run.specs.Faults.{text_on}
use Rattle.diff_run.proofs.inputs.read_rows.Goals as goal

pub returns-in-Err-clause-table : goal.returns-in-Err-clause-table
returns-in-Err-clause-table g c = λ left_text right_text opened. c.in-Err.ensures.table c.args.options.now.csv (text_on c.args.side left_text right_text) opened
