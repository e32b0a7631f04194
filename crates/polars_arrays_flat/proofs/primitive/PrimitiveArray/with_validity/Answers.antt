use Rattle.std.proofs.Common.{rules}
use Rattle.polars_arrays_flat.proofs.primitive.PrimitiveArray.with_validity.Goals as goal

pub returns-clause-stored : goal.returns-clause-stored
returns-clause-stored c = search rules
