use Rattle.std.proofs.Common.{rules}
use Rattle.polars_arrays_bytes.proofs.OffsetWindows.{offset_rows}
use Rattle.polars_arrays_bytes.proofs.binary.BinaryArray.value.Goals as goal

pub returns : goal.returns
returns c = search (rules, offset_rows)
