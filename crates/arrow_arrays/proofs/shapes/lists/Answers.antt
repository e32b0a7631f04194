use Rattle.std.proofs.lemmas.Result.{err_from_is_err_and}
use Rattle.arrow_parts.specs.Lent.{places_from}
use Rattle.arrow_arrays.proofs.Fitting.{fits-lists, lists-placed, lists-present}
use Rattle.arrow_arrays.proofs.shapes.lists.Goals as goal

pub returns-clause-made : goal.returns-clause-made
returns-clause-made g c =
    fits-lists (places_from c.args.part.now.base g.O.Number.value c.args.offsets.now) c.args.part.now c.in_ok-ends.ends c.in_ok-validity.validity c.in_ok-validity.ensures.held c.in_ok-ends.ensures.count c.in_ok-ends.ensures.ends c.in_ok-validity.ensures.mask

pub returns-in_err-validity-clause-refused : goal.returns-in_err-validity-clause-refused
returns-in_err-validity-clause-refused g c =
    let p = err_from_is_err_and c.from_residual.result c.from_residual.ensures.1 in
    rw (p.1, p.2) (lists-present (places_from c.args.part.now.base g.O.Number.value c.args.offsets.now) c.args.part.now _ c.in_err-validity.ensures.refused)

pub returns-in_err-ends-clause-refused : goal.returns-in_err-ends-clause-refused
returns-in_err-ends-clause-refused g c =
    let p = err_from_is_err_and c.from_residual-in_err-ends.result c.from_residual-in_err-ends.ensures.1 in
    rw (p.1, p.2) (lists-placed (places_from c.args.part.now.base g.O.Number.value c.args.offsets.now) c.args.part.now _ c.in_err-ends.ensures.refused)
