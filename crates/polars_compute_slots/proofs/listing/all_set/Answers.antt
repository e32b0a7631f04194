use Rattle.std.proofs.Common.{false, sym}
use Rattle.std.proofs.lemmas.Option.{get_or_from_slice_get}
use Rattle.polars_compute_slots.proofs.Sets.{not-all, seen-all}
use Rattle.polars_compute_slots.proofs.listing.all_set.Goals as goal

pub returns-then-count_values-count : goal.returns-then-count_values-count
returns-then-count_values-count g c =
    λ least. seen-all least (g.S.Slots.set_slots c.args.slots.now) c.args.count c.count_values.result c.is_set.result c.requires c.count_values.ensures (sym (get_or_from_slice_get _ c.args.count c.is_set.result false c.is_set.ensures)) c.if-count_values-count.true

pub returns-else-count_values-count : goal.returns-else-count_values-count
returns-else-count_values-count g c =
    λ least. not-all least (g.S.Slots.set_slots c.args.slots.now) c.args.count c.count_values.result c.requires c.count_values.ensures c.if-count_values-count.false
