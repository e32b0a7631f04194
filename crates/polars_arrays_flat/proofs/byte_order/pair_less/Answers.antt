use Rattle.std.proofs.Common.{rules}
use Rattle.polars_arrays_flat.proofs.byte_order.pair_less.Goals as goal

pub returns : goal.returns
returns c = search rules
