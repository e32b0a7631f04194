use Rattle.std.proofs.Common.{◌∙◌, sym}
use Rattle.polars_arrays_flat.specs.Row.{Truth}
use Rattle.polars_tables_rows.specs.RowsLaws.{value-read, value-masked}
use Rattle.polars_tables_rows.proofs.row_array.BooleanArrayRowArray.value.Goals as goal

pub returns-then-is_present : goal.returns-then-is_present
returns-then-is_present c =
    let present = rw c.validity.ensures.validity at c.is_present.ensures in
    let read = rw c.values.ensures at c.get_bit.ensures in
    value-read Truth _ c.args.self.now.values c.args.i c.validity.ensures.bits c.requires _ (sym present ∙ c.if-is_present.true) read

pub returns-else-is_present : goal.returns-else-is_present
returns-else-is_present c =
    let present = rw c.validity.ensures.validity at c.is_present.ensures in
    value-masked Truth _ c.args.self.now.values c.args.i c.validity.ensures.bits c.requires (sym present ∙ c.if-is_present.false)
