use Rattle.std.proofs.Common.{rules}
use Rattle.polars_tables_operations.proofs.ranges.are_ends.Goals as goal

pub returns-then-first-last : goal.returns-then-first-last
returns-then-first-last c = search rules
