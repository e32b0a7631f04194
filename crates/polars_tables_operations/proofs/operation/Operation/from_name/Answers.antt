use Rattle.std.proofs.Common.{rules}
use Rattle.polars_tables_operations.proofs.operation.Operation.from_name.Goals as goal

pub returns : goal.returns
returns c = search rules
