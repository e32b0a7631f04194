use Rattle.std.proofs.Common.{arith}
use Rattle.polars_compute_slots.proofs.WordBits.{front-count}
use Rattle.polars_compute_slots.proofs.slots.MutableBitmapSlots.count_values.Goals as goal

pub overflow_sub-result : goal.overflow_sub-result
overflow_sub-result c =
    omega (arith, front-count c.args.self.now c.args.n c.from.result c.is_set.result c.requires c.is_set.ensures c.from.ensures)

pub returns : goal.returns
returns c =
    omega (arith, front-count c.args.self.now c.args.n c.from.result c.is_set.result c.requires c.is_set.ensures c.from.ensures)
