use Rattle.std.proofs.Common.{rules}
use Rattle.polars_tables_lines.proofs.program.fault_text.Goals as goal

pub returns-in-Read : goal.returns-in-Read
returns-in-Read c = search rules
