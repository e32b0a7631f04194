use Rattle.std.proofs.Common.{◌<◌, arith}
use Rattle.polars_arrays_bytes.specs.OffsetStrings.{places}
use Rattle.polars_compare_nested.proofs.MatchBits.{length-width, width_value}
use Rattle.polars_compare_nested.proofs.spans.ListsOfWidthTruthValues.value.Goals as goal

pub overflow_add-self : goal.overflow_add-self
overflow_add-self g c =
    let l = c.args.self.now in
    record { fits = omega (arith, c.requires, l.fits, length-width (places g.O.Number.value l.offsets.now) l.a l.rows l.width) }

pub list_at-count-requires-clause-within : goal.list_at-count-requires-clause-within
list_at-count-requires-clause-within g c =
    let l = c.args.self.now in
    omega (arith, c.requires, l.within, length-width (places g.O.Number.value l.offsets.now) l.a l.rows l.width)

pub list_at-count-requires-clause-good : goal.list_at-count-requires-clause-good
list_at-count-requires-clause-good g c κs within =
    let l = c.args.self.now in
    l.good c.args.i (omega (arith, c.requires, length-width (places g.O.Number.value l.offsets.now) l.a l.rows l.width))

pub returns : goal.returns
returns g c =
    let l = c.args.self.now in
    let below : c.args.i < l.rows = omega (arith, c.requires, length-width (places g.O.Number.value l.offsets.now) l.a l.rows l.width) in
    width_value (places g.O.Number.value l.offsets.now) l.a l.rows l.width c.args.i _ below c.list_at-count.ensures.count
