use Rattle.std.proofs.Common.{rules}
use Rattle.polars_arrays_bytes.proofs.Windows.{sized}
use Rattle.polars_arrays_bytes.proofs.of_size.OfSizeByteRows.bytes.Goals as goal

pub returns : goal.returns
returns c = search (rules, sized)
