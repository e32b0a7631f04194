use Rattle.std.proofs.Common.{◌∙◌}
use Rattle.polars_arrays_flat.specs.Row.{Truth}
use Rattle.polars_tables_rows.specs.RowsLaws.{length-values}
use Rattle.polars_tables_rows.proofs.row_array.BooleanArrayRowArray.count.Goals as goal

pub returns-clause-rows : goal.returns-clause-rows
returns-clause-rows c = c.len.ensures ∙ length-values Truth _ c.args.self.now.values c.validity.ensures.bits
