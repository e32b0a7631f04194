use Rattle.std.proofs.Common.{rules}
use Rattle.polars_tables_rows.proofs.written.push_row.Goals as goal

pub returns-in-None : goal.returns-in-None
returns-in-None c = search rules
