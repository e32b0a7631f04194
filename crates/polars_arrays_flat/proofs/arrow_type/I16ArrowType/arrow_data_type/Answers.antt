use Rattle.std.proofs.Common.{rules}
use Rattle.polars_arrays_flat.proofs.arrow_type.I16ArrowType.arrow_data_type.Goals as goal

pub returns : goal.returns
returns c = search rules
