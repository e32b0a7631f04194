use Rattle.std.proofs.Common.{rules}
use Rattle.polars_arrays_bytes.proofs.offsets.keep_rows.Goals as goal

pub returns : goal.returns
returns c = search rules
