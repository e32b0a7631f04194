use Rattle.std.proofs.Common.{◌+◌, ◌-◌, arith, ap₂, sym, ◌∙◌}
use Rattle.arrow_equality.proofs.LentPlaces.{place-lent}
use Rattle.arrow_equality.proofs.ListPlaces.{placed-lent}
use Rattle.arrow_equality.proofs.lists.list_at.Goals as goal

pub place_of-from-requires-after_bounds : goal.place_of-from-requires-after_bounds
place_of-from-requires-after_bounds g c κs within none =
    c.requires.good.0 (place-lent g.O.Number.value c.args.base c.args.offsets.now c.args.i _ c.index-offsets-i.is (omega (arith, c.requires.row)) ∙ none)

pub place_of-to-requires-after_bounds : goal.place_of-to-requires-after_bounds
place_of-to-requires-after_bounds g c κs within none =
    c.requires.good.1 (place-lent g.O.Number.value c.args.base c.args.offsets.now (c.args.i + 1) _ c.index-offsets-i-2.is (omega (arith, c.requires.row)) ∙ none)

pub overflow_sub-result : goal.overflow_sub-result
overflow_sub-result g c =
    let start = placed-lent g.O.Number.value c.args.base c.args.offsets.now c.args.i _ c.place_of-from.result c.index-offsets-i.is (omega (arith, c.requires.row)) c.place_of-from.ensures in
    let end = placed-lent g.O.Number.value c.args.base c.args.offsets.now (c.args.i + 1) _ c.place_of-to.result c.index-offsets-i-2.is (omega (arith, c.requires.row)) c.place_of-to.ensures in
    omega (arith, start, end, c.requires.good.2)

pub returns-clause-start : goal.returns-clause-start
returns-clause-start g c =
    sym (placed-lent g.O.Number.value c.args.base c.args.offsets.now c.args.i _ c.place_of-from.result c.index-offsets-i.is (omega (arith, c.requires.row)) c.place_of-from.ensures)

pub returns-clause-size : goal.returns-clause-size
returns-clause-size g c =
    let start = placed-lent g.O.Number.value c.args.base c.args.offsets.now c.args.i _ c.place_of-from.result c.index-offsets-i.is (omega (arith, c.requires.row)) c.place_of-from.ensures in
    let end = placed-lent g.O.Number.value c.args.base c.args.offsets.now (c.args.i + 1) _ c.place_of-to.result c.index-offsets-i-2.is (omega (arith, c.requires.row)) c.place_of-to.ensures in
    ap₂ ◌-◌ (sym end) (sym start)
