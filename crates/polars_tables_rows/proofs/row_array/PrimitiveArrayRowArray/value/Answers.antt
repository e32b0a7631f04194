use Rattle.std.proofs.Common.{◌∙◌, sym}
use Rattle.polars_arrays_flat.specs.Row.{Int}
use Rattle.polars_tables_rows.specs.RowsLaws.{value-present, value-masked}
use Rattle.polars_tables_rows.proofs.row_array.PrimitiveArrayRowArray.value.Goals as goal

pub returns-then-is_present : goal.returns-then-is_present
returns-then-is_present g c =
    let present = rw c.validity.ensures.validity at c.is_present.ensures in
    let read = rw c.values.ensures at c.index-values-i.is in
    value-present (λ x. Int (g.T.Number.value x)) _ c.args.self.now.values c.args.i c.validity.ensures.bits c.requires _ (sym present ∙ c.if-is_present.true) read

pub returns-else-is_present : goal.returns-else-is_present
returns-else-is_present g c =
    let present = rw c.validity.ensures.validity at c.is_present.ensures in
    value-masked (λ x. Int (g.T.Number.value x)) _ c.args.self.now.values c.args.i c.validity.ensures.bits c.requires (sym present ∙ c.if-is_present.false)
