use Rattle.std.proofs.Common.{rules}
use Rattle.polars_arrays_bits.proofs.mutable_bitmap.MutableBitmap.merge_eq_assign.Goals as goal

pub returns : goal.returns
returns c = search rules
