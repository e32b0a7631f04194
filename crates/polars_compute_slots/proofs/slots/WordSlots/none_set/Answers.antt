use Rattle.polars_compute_slots.proofs.WordBits.{word-none}
use Rattle.polars_compute_slots.proofs.slots.WordSlots.none_set.Goals as goal

pub returns : goal.returns
returns c = word-none c.args.len
