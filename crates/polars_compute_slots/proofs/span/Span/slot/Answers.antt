use Rattle.std.proofs.Common.{arith}
use Rattle.std.proofs.lemmas.Int.{ints}
use Rattle.polars_compute_slots.proofs.span.Span.slot.Goals as goal

pub distance-requires-clause-order : goal.distance-requires-clause-order
distance-requires-clause-order g c κs within = c.requires.0

pub distance-requires-clause-small : goal.distance-requires-clause-small
distance-requires-clause-small g c κs within = omega (arith, ints, c.requires.1)
