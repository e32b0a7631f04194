use Rattle.std.proofs.Common.{rules}
use Rattle.polars_arrays_bits.proofs.builder.BitmapBuilder.freeze.Goals as goal

pub returns : goal.returns
returns c = search rules
