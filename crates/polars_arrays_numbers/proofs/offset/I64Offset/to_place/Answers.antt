use Rattle.std.proofs.Common.{rules}
use Rattle.polars_arrays_numbers.proofs.offset.I64Offset.to_place.Goals as goal

pub returns : goal.returns
returns c = search rules
