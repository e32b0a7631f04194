use Rattle.std.proofs.Common.{sym}
use Rattle.polars_arrays_bits.proofs.Windows.{length_is}
use Rattle.polars_arrays_bits.proofs.bitmap.Bitmap.len.Goals as goal

pub returns : goal.returns
returns c = sym (length_is _ c.self.inside.len c.args.self.now c.self.view_is)
