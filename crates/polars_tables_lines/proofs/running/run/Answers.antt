use Rattle.std.proofs.Common.{rules}
use Rattle.polars_tables_lines.proofs.running.run.Goals as goal

pub returns-in_err-input-clause-unwritten : goal.returns-in_err-input-clause-unwritten
returns-in_err-input-clause-unwritten c = search rules
