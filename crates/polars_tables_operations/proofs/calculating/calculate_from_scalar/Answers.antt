use Rattle.polars_tables_operations.proofs.calculating.calculate_from_scalar.Goals as goal

pub returns-in-Subtract : goal.returns-in-Subtract
returns-in-Subtract g c =
    let law = g.met.T.RowNumber in
    rw (c.in-Subtract.is, law.least_law, law.width_law) c.wrapping_sub_scalar_lhs.ensures.answers

pub returns-in-FloorDivide : goal.returns-in-FloorDivide
returns-in-FloorDivide g c =
    let law = g.met.T.RowNumber in
    rw (c.in-FloorDivide.is, law.least_law, law.width_law) c.wrapping_floor_div_scalar_lhs.ensures.answers

pub returns-in-TruncatedDivide : goal.returns-in-TruncatedDivide
returns-in-TruncatedDivide g c =
    let law = g.met.T.RowNumber in
    rw (c.in-TruncatedDivide.is, law.least_law, law.width_law) c.wrapping_trunc_div_scalar_lhs.ensures.answers

pub returns-in-Modulo : goal.returns-in-Modulo
returns-in-Modulo g c =
    let law = g.met.T.RowNumber in
    rw (c.in-Modulo.is, law.least_law, law.width_law) c.wrapping_mod_scalar_lhs.ensures.answers

pub returns-in-LegacyDivide : goal.returns-in-LegacyDivide
returns-in-LegacyDivide g c =
    let law = g.met.T.RowNumber in
    rw (c.in-LegacyDivide.is, law.least_law, law.width_law) c.legacy_div_scalar_lhs.ensures.answers
