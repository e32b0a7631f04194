use Rattle.std.proofs.Common.{arith}
use Rattle.polars_compute_slots.proofs.WordBits.{size_is, slot_is}
use Rattle.polars_compute_slots.proofs.slots.WordSlotsSlots.is_set.Goals as goal

pub overflow_shr-result : goal.overflow_shr-result
overflow_shr-result c = omega (arith, size_is _ _ _ c.self.view_is, c.self.invariant.0)

pub returns : goal.returns
returns c = slot_is _ _ _ _ c.self.view_is c.requires
