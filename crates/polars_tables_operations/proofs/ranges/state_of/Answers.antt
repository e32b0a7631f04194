use Rattle.polars_tables_operations.proofs.Lists.{ends-ok}
use Rattle.polars_tables_operations.proofs.ranges.state_of.Goals as goal

pub returns : goal.returns
returns g c = rw (ends-ok _ _ _ c.in_ok-first.ensures) c.seen_between.ensures
