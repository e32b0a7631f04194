use Rattle.polars_compute_slots.proofs.WordBits.{upper_bit}
use Rattle.polars_compute_slots.proofs.slots.one_bit.Goals as goal

pub returns-else-i-lt64 : goal.returns-else-i-lt64
returns-else-i-lt64 c = upper_bit c.args.i c.from-half.result c.if-i-lt64.false c.requires c.from-half.ensures
