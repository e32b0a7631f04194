use Rattle.std.proofs.Common.{rules}
use Rattle.polars_arrays_flat.proofs.RowWindows.{windows}
use Rattle.polars_arrays_flat.proofs.primitive.PrimitiveArray.slice.Goals as goal

pub returns-clause-stored : goal.returns-clause-stored
returns-clause-stored c = search (rules, windows)
