use Rattle.polars_tables_operations.proofs.Answered.{answered}
use Rattle.polars_tables_operations.proofs.Lists.{scalar-ok}
use Rattle.polars_tables_operations.proofs.numeric.answer_scalar.Goals as goal

pub returns : goal.returns
returns g c =
    rw (scalar-ok _ _ _ c.in_ok-scalar.ensures) (answered _ _ _ _ _ _ c.calculate_scalar.ensures c.write_made.ensures)
