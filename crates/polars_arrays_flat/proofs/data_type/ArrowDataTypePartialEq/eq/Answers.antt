use Rattle.polars_arrays_flat.specs.KindEqualityLaws.{dtype_eq-tells}
use Rattle.polars_arrays_flat.proofs.data_type.ArrowDataTypePartialEq.eq.Goals as goal

pub returns-clause-answer : goal.returns-clause-answer
returns-clause-answer c =
    dtype_eq-tells c.same_kind.result c.args.self.now c.args.other.now c.same_kind.ensures
