use Rattle.std.proofs.Common.{rules}
use Rattle.polars_arrays_flat.proofs.primitive.PrimitiveArray.share.Goals as goal

pub returns-in_err-values-clause-stays : goal.returns-in_err-values-clause-stays
returns-in_err-values-clause-stays c = search rules
