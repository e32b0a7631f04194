use Rattle.std.proofs.Common.{sym, ap}
use Rattle.polars_arrays_bits.proofs.Windows.{length_is}
use Rattle.polars_arrays_bits.proofs.builder.BitmapBuilder.len.Goals as goal

pub returns : goal.returns
returns c = sym (length_is _ c.self.inside.len c.args.self.now.bits (ap (λ d. d.bits) c.self.view_is))
