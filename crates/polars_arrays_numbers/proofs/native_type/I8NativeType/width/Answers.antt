use Rattle.std.proofs.Common.{rules}
use Rattle.polars_arrays_numbers.proofs.native_type.I8NativeType.width.Goals as goal

pub returns : goal.returns
returns c = search rules
