use Rattle.std.proofs.Common.{rules}
use Rattle.polars_compute_reductions.proofs.fold.choose.Goals as goal

pub returns-then-present : goal.returns-then-present
returns-then-present c = search rules
