use Rattle.std.proofs.Common.{rules}
use Rattle.polars_arrays_bits.proofs.bit_mask.BitMask.all_in_blocks.Goals as goal

pub returns-in-8 : goal.returns-in-8
returns-in-8 c = search rules
