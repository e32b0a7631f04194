use Rattle.polars_compute_slots.proofs.Casts.{between-count, between-numbers}
use Rattle.polars_compute_slots.proofs.span.Span.between.Goals as goal

pub returns-clause-numbers : goal.returns-clause-numbers
returns-clause-numbers g c =
    between-numbers g.T.Bounded.low g.T.Bounded.high (g.T.Number.value c.args.greatest) (g.T.Number.value c.args.least) c.distance.result c.distance.ensures.least c.distance.ensures.greatest c.requires c.distance.ensures.distance

pub returns-clause-count : goal.returns-clause-count
returns-clause-count g c = between-count (g.T.Number.value c.args.greatest) (g.T.Number.value c.args.least) c.distance.result c.requires.0 c.distance.ensures.distance
