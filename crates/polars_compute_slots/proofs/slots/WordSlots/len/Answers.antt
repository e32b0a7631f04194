use Rattle.std.proofs.Common.{sym}
use Rattle.polars_compute_slots.proofs.WordBits.{size_is}
use Rattle.polars_compute_slots.proofs.slots.WordSlots.len.Goals as goal

pub returns : goal.returns
returns c = sym (size_is _ _ _ c.self.view_is)
