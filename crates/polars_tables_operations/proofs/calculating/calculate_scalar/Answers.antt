use Rattle.polars_tables_operations.proofs.calculating.calculate_scalar.Goals as goal

pub returns-in-Add : goal.returns-in-Add
returns-in-Add g c =
    let law = g.met.T.RowNumber in
    rw (c.in-Add.is, law.least_law, law.width_law) c.wrapping_add_scalar.ensures.answers

pub returns-in-Multiply : goal.returns-in-Multiply
returns-in-Multiply g c =
    let law = g.met.T.RowNumber in
    rw (c.in-Multiply.is, law.least_law, law.width_law) c.wrapping_mul_scalar.ensures.answers

pub returns-in-Ordered : goal.returns-in-Ordered
returns-in-Ordered g c = rw c.in-Ordered.is c.calculate_scalar_in_order.ensures
