use Rattle.std.proofs.Common.{rules}
use Rattle.polars_arrays_bits.proofs.bitmap.Bitmap.or_not.Goals as goal

pub returns : goal.returns
returns c = search rules
