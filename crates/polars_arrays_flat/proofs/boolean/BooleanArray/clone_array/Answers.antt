use Rattle.std.proofs.Common.{rules}
use Rattle.polars_arrays_flat.proofs.boolean.BooleanArray.clone_array.Goals as goal

pub returns : goal.returns
returns c = search rules
