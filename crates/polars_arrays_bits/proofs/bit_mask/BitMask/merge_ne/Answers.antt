use Rattle.std.proofs.Common.{rules}
use Rattle.polars_arrays_bits.proofs.bit_mask.BitMask.merge_ne.Goals as goal

pub returns : goal.returns
returns c = search rules
