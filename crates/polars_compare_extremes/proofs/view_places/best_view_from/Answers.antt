use Rattle.std.proofs.Common.{rules}
use Rattle.polars_compare_extremes.proofs.view_places.best_view_from.Goals as goal

pub loop-i-preserved : goal.loop-i-preserved
loop-i-preserved c = search rules
