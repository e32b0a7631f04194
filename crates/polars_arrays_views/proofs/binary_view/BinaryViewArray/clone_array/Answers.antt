use Rattle.std.proofs.Common.{rules}
use Rattle.polars_arrays_views.proofs.binary_view.BinaryViewArray.clone_array.Goals as goal

pub returns : goal.returns
returns c = search rules
