use Rattle.std.proofs.Common.{rules}
use Rattle.polars_tables_rows.proofs.fault.or_memory.Goals as goal

pub returns-in-Err-Memory-clause-refused : goal.returns-in-Err-Memory-clause-refused
returns-in-Err-Memory-clause-refused c = search rules
