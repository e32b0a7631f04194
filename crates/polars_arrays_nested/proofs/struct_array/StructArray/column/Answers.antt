use Rattle.std.proofs.Common.{◌≡◌, sym, subst}
use Rattle.polars_arrays_nested.proofs.Cuts.{column_good}
use Rattle.polars_arrays_nested.specs.ColumnLaws.{good-struct}
use Rattle.polars_arrays_nested.specs.GoodParts.{IsGood}
use Rattle.polars_arrays_nested.specs.Lengths.{len_of}
use Rattle.polars_arrays_nested.specs.Parts.{columns, struct_fields}
use Rattle.polars_arrays_nested.specs.declared.any_array.AnyArray.{AnyArray}
use Rattle.polars_arrays_nested.proofs.struct_array.StructArray.column.Goals as goal

pub returns-clause-good : goal.returns-clause-good
returns-clause-good c = λ good.
    let all = (good-struct c.args.self.now good).1 in
    let is = column_good (struct_fields c.args.self.now) c.args.self.now.len (columns c.args.self.now) all c.args.i c.index.result.now c.requires in
    subst (λ (a : AnyArray). IsGood a × (len_of a ≡ c.args.self.now.len)) (sym c.index.ensures) is
