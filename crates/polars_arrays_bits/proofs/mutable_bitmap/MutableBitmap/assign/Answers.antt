use Rattle.std.proofs.Common.{◌∙◌}
use Rattle.polars_arrays_bits.proofs.WrittenWindows.{changed-zip2}
use Rattle.polars_arrays_bits.proofs.mutable_bitmap.MutableBitmap.assign.Goals as goal

pub returns : goal.returns
returns g c = c.change.ensures ∙ changed-zip2 g.O.BinaryOperator.bit (g.S.BitSource.bit c.args.source) c.args.self.now
