use Rattle.std.proofs.Common.{◌∙◌}
use Rattle.polars_arrays_bits.proofs.WrittenWindows.{changed-zip3}
use Rattle.polars_arrays_bits.proofs.mutable_bitmap.MutableBitmap.assign_both.Goals as goal

pub returns : goal.returns
returns g c = c.change.ensures ∙ changed-zip3 g.O.TernaryOperator.bit (g.A.BitSource.bit c.args.left) (g.B.BitSource.bit c.args.right) c.args.self.now
