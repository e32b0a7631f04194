use Rattle.polars_arrays_flat.specs.KindEqualityLaws.{field_eq-tells}
use Rattle.polars_arrays_flat.proofs.data_type.FieldPartialEq.eq.Goals as goal

pub returns-clause-answer : goal.returns-clause-answer
returns-clause-answer c =
    field_eq-tells c.same_field.result c.args.self.now c.args.other.now c.same_field.ensures
