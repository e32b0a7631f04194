use Rattle.std.proofs.Common.{arith}
use Rattle.polars_arrays_bits.proofs.WordValues.{window-words}
use Rattle.polars_arrays_bits.proofs.mutable_bitmap.MutableBitmap.from_source.Goals as goal

pub returns : goal.returns
returns g c = window-words (g.S.BitSource.bit c.args.source.now) c.div_ceil.result c.args.len c.in_ok-words.words.items c.in_ok-words.ensures (omega (arith, c.div_ceil.ensures))
