use Rattle.std.proofs.Common.{rules}
use Rattle.polars_tables_lines.proofs.program.exit_status.Goals as goal

pub returns-in-Ok : goal.returns-in-Ok
returns-in-Ok c = search rules
