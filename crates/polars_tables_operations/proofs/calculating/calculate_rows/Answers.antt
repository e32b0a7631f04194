use Rattle.polars_compare_equality.specs.SlotsLaws.{number_slots-as_long}
use Rattle.polars_tables_operations.proofs.calculating.calculate_rows.Goals as goal

pub wrapping_add-requires : goal.wrapping_add-requires
wrapping_add-requires g c = (c.type_bounds.static-T, number_slots-as_long g.T.Number.value _ _ c.requires)

pub wrapping_mul-requires : goal.wrapping_mul-requires
wrapping_mul-requires g c = (c.type_bounds.static-T, number_slots-as_long g.T.Number.value _ _ c.requires)

pub returns-in-Add : goal.returns-in-Add
returns-in-Add g c =
    let law = g.met.T.RowNumber in
    rw (c.in-Add.is, law.least_law, law.width_law) c.wrapping_add.ensures.answers

pub returns-in-Multiply : goal.returns-in-Multiply
returns-in-Multiply g c =
    let law = g.met.T.RowNumber in
    rw (c.in-Multiply.is, law.least_law, law.width_law) c.wrapping_mul.ensures.answers

pub returns-in-Ordered : goal.returns-in-Ordered
returns-in-Ordered g c = rw c.in-Ordered.is c.calculate_in_order.ensures
