use Rattle.polars_tables_operations.proofs.BitRows.{number-row}
use Rattle.polars_tables_operations.proofs.line_number.LineNumber.law_number_bits.Goals as goal

pub returns : goal.returns
returns g c =
    let law = g.met.Self.RowNumber in
    number-row _ _ _ _ _ g.met.Self.LineNumber.number_kind_law law.width_law law.least_law c.whole.ensures.least c.whole.ensures.greatest c.law_wrapped.ensures.only
