use Rattle.std.proofs.Common.{[], arith}
use Rattle.std.proofs.lemmas.List.Elements.{All-from_get_or}
use Rattle.polars_arrays_views.specs.Parts.{contents}
use Rattle.polars_arrays_views.specs.Views.{GoodView}
use Rattle.polars_arrays_views.proofs.binary_view.first_bad_view.Goals as goal

pub returns : goal.returns
returns c =
    All-from_get_or (GoodView (contents c.args.buffers.now)) c.args.views.now [] (λ k within. c.loop-row.invariant k (omega arith))
