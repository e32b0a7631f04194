use Rattle.std.proofs.Common.{rules}
use Rattle.polars_arrays_flat.proofs.primitive.PrimitiveArray.owns.Goals as goal

pub returns-clause-owned : goal.returns-clause-owned
returns-clause-owned c = search rules
