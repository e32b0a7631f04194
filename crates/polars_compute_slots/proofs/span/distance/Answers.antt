use Rattle.std.proofs.Common.{◌^◌, arith}
use Rattle.std.proofs.lemmas.Int.{ints}
use Rattle.polars_compute_slots.proofs.Casts.{difference_fits}
use Rattle.polars_compute_slots.proofs.span.distance.Goals as goal

pub overflow_cast-result : goal.overflow_cast-result
overflow_cast-result g c =
    difference_fits c.whole.result c.whole-2.result (2 ^ 64) c.whole.ensures.narrow c.whole-2.ensures.narrow
    (omega (arith, ints, c.whole.ensures.number, c.whole-2.ensures.number, c.requires.order))
    (omega (arith, ints, c.whole.ensures.number, c.whole-2.ensures.number, c.requires.small)) (omega arith)
