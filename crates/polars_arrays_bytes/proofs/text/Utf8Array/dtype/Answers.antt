use Rattle.std.proofs.Common.{rules}
use Rattle.polars_arrays_bytes.proofs.text.Utf8Array.dtype.Goals as goal

pub returns-clause-dtype : goal.returns-clause-dtype
returns-clause-dtype c = search rules
