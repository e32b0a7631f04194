use Rattle.polars_arrays_flat.specs.ArrayRows.{number_rows}
use Rattle.polars_tables_operations.proofs.Lists.{two-ok}
use Rattle.polars_tables_operations.proofs.numeric.state_of_lists.Goals as goal

pub returns : goal.returns
returns g c = rw (two-ok (number_rows g.T.Number.value) _ _ _ c.in_ok-ends.ensures) c.state_of-state.ensures
