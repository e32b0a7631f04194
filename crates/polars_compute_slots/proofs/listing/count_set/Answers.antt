use Rattle.std.proofs.Common.{◌∙◌, arith, sym}
use Rattle.polars_compute_slots.proofs.Sets.{length-members}
use Rattle.polars_compute_slots.proofs.listing.count_set.Goals as goal

pub returns : goal.returns
returns g c = λ least. c.count_values.ensures ∙ sym (length-members least (g.S.Slots.set_slots c.args.slots.now) c.args.count (omega (arith, c.requires)))
