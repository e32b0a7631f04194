use Rattle.std.proofs.Common.{◌<◌, ℕ, subst}
use Rattle.polars_arrays_bytes.proofs.OffsetWindows.{length-offset_strings}
use Rattle.polars_arrays_bytes.proofs.binary.BinaryArrayByteRows.bytes.Goals as goal

pub value-requires-after_bounds : goal.value-requires-after_bounds
value-requires-after_bounds g c κs within =
    subst (λ (n : ℕ). c.args.i < n) (length-offset_strings g.O.Number.value c.args.self.now.offsets c.args.self.now.values) c.requires
