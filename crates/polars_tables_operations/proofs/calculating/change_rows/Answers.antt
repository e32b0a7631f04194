use Rattle.polars_tables_operations.proofs.calculating.change_rows.Goals as goal

pub returns-in-Magnitude : goal.returns-in-Magnitude
returns-in-Magnitude g c =
    let law = g.met.T.RowNumber in
    rw (c.in-Magnitude.is, law.least_law, law.width_law) c.wrapping_abs.ensures.answers

pub returns-in-Negation : goal.returns-in-Negation
returns-in-Negation g c =
    let law = g.met.T.RowNumber in
    rw (c.in-Negation.is, law.least_law, law.width_law) c.wrapping_neg.ensures.answers
