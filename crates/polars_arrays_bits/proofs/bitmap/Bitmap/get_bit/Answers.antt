use Rattle.std.proofs.Common.{◌+◌, arith, length, ap, ◌∙◌}
use Rattle.polars_arrays_words.specs.Bits.{bit_of}
use Rattle.polars_arrays_bits.proofs.Windows.{length_is, bit-read}
use Rattle.polars_arrays_bits.proofs.bitmap.Bitmap.get_bit.Goals as goal

pub bit_from-requires-clause-within : goal.bit_from-requires-clause-within
bit_from-requires-clause-within c =
    omega (arith, length_is _ c.self.inside.len c.args.self.now c.self.view_is, ap length c.as_slice.ensures, c.self.invariant.1)

pub returns : goal.returns
returns c =
    bit-read c.self.inside.words.items c.self.inside.at c.self.inside.len c.args.i c.args.self.now c.bit_from.result c.self.view_is c.requires
    (c.bit_from.ensures ∙ ap (λ ws. bit_of ws (c.self.inside.at + c.args.i)) c.as_slice.ensures)
