use Rattle.std.proofs.Common.{rules}
use Rattle.polars_arrays_nested.specs.ColumnLaws.{row-struct}
use Rattle.polars_arrays_nested.proofs.Structs.{structs-good}
use Rattle.polars_arrays_nested.specs.declared.struct_array.StructArray.{StructArray}
use Rattle.polars_arrays_nested.proofs.struct_array.StructArray.try_new.Goals as goal

pub returns-in-None-clause-good : goal.returns-in-None-clause-good
returns-in-None-clause-good c =
    let a : StructArray = record { fields = c.args.fields; len = c.args.len; values = c.args.values; validity = c.args.validity } in
    structs-good a (search rules) (λ k. rw (c.deref.ensures.value, c.deref-2.ensures.value) at (c.in-None.ensures k)) c.requires

pub returns-in-None-clause-rows : goal.returns-in-None-clause-rows
returns-in-None-clause-rows c =
    row-struct (record { fields = c.args.fields; len = c.args.len; values = c.args.values; validity = c.args.validity })

pub returns-in-None-clause-made : goal.returns-in-None-clause-made
returns-in-None-clause-made c = search rules

pub returns-in-Some-clause-refused : goal.returns-in-Some-clause-refused
returns-in-Some-clause-refused c = search rules

pub returns-in-Some-clause-made : goal.returns-in-Some-clause-made
returns-in-Some-clause-made c = search rules
