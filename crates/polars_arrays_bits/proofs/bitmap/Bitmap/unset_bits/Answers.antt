use Rattle.std.proofs.Common.{arith}
use Rattle.polars_arrays_bits.proofs.Windows.{count_by-not}
use Rattle.polars_arrays_bits.proofs.bitmap.Bitmap.unset_bits.Goals as goal

pub returns : goal.returns
returns c = omega (arith, count_by-not c.args.self.now)
