use Rattle.std.proofs.Common.{rules}
use Rattle.polars_arrays_views.proofs.view.View.prefix.Goals as goal

pub returns : goal.returns
returns c = search rules
