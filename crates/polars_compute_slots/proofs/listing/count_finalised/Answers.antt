use Rattle.std.proofs.Common.{arith, false}
use Rattle.std.proofs.lemmas.Option.{get_or_from_slice_get}
use Rattle.polars_compute_slots.proofs.Fullness.{count-le}
use Rattle.polars_compute_slots.proofs.Sets.{byte-le, count-finalised}
use Rattle.polars_compute_slots.proofs.listing.count_finalised.Goals as goal

pub overflow_add-result : goal.overflow_add-result
overflow_add-result g c =
    let most = count-le (g.S.Slots.set_slots c.args.slots.now) c.args.count (omega (arith, c.requires.size)) in
    let byte = byte-le c.from.result c.is_set.result c.from.ensures in
    omega (arith, c.count_values.ensures, c.requires.few)

pub returns : goal.returns
returns g c =
    λ least put. count-finalised least put (g.S.Slots.set_slots c.args.slots.now) c.args.count c.count_values.result c.from.result c.is_set.result c.requires.size c.count_values.ensures (get_or_from_slice_get (g.S.Slots.set_slots c.args.slots.now) c.args.count c.is_set.result false c.is_set.ensures) c.from.ensures
