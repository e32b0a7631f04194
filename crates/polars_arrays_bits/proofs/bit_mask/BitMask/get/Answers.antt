use Rattle.std.proofs.Common.{arith}
use Rattle.polars_arrays_bits.proofs.Windows.{length_is, bit-read}
use Rattle.polars_arrays_bits.proofs.bit_mask.BitMask.get.Goals as goal

pub bit_from-requires-clause-within : goal.bit_from-requires-clause-within
bit_from-requires-clause-within c = omega (arith, length_is _ c.self.inside.len c.args.self.now c.self.view_is, c.self.invariant.1)

pub returns : goal.returns
returns c = bit-read c.self.inside.words.now c.self.inside.at c.self.inside.len c.args.i c.args.self.now c.bit_from.result c.self.view_is c.requires c.bit_from.ensures
