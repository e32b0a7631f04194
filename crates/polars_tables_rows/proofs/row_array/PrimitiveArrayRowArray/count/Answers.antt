use Rattle.std.proofs.Common.{◌∙◌}
use Rattle.polars_arrays_flat.specs.Row.{Int}
use Rattle.polars_tables_rows.specs.RowsLaws.{length-values}
use Rattle.polars_tables_rows.proofs.row_array.PrimitiveArrayRowArray.count.Goals as goal

pub returns-clause-rows : goal.returns-clause-rows
returns-clause-rows g c = c.len.ensures ∙ length-values (λ x. Int (g.T.Number.value x)) _ c.args.self.now.values c.validity.ensures.bits
