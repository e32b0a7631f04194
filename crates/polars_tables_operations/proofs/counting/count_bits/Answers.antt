use Rattle.std.proofs.Common.{rules}
use Rattle.polars_tables_operations.proofs.counting.count_bits.Goals as goal

pub returns-in-Ones : goal.returns-in-Ones
returns-in-Ones c = search rules
