use Rattle.polars_arrays_flat.specs.ArrayRows.{number_rows}
use Rattle.polars_tables_operations.proofs.Lists.{two-ok}
use Rattle.polars_tables_operations.proofs.numeric.answer_calculation.Goals as goal

pub returns-in-Scalar : goal.returns-in-Scalar
returns-in-Scalar g c = rw (c.in-Scalar.is, two-ok (number_rows g.T.Number.value) _ _ _ c.in_ok-left.ensures) c.answer_scalar.ensures
