use Rattle.std.proofs.Common.{refl}
use Rattle.std.proofs.lemmas.Result.{err_from_is_err_and}
use Rattle.arrow_arrays.proofs.Fitting.{fits-fixed, fixed-present}
use Rattle.arrow_arrays.proofs.shapes.fixed_lists.Goals as goal

pub returns-clause-made : goal.returns-clause-made
returns-clause-made c =
    fits-fixed c.args.part.now (record { width = c.args.part.now.width; rows = c.args.part.now.rows }) c.in_ok-validity.validity c.in_ok-validity.ensures.held refl refl c.in_ok-validity.ensures.mask

pub returns-in_err-validity-clause-refused : goal.returns-in_err-validity-clause-refused
returns-in_err-validity-clause-refused c =
    let p = err_from_is_err_and c.from_residual.result c.from_residual.ensures.1 in
    rw (p.1, p.2) (fixed-present c.args.part.now _ c.in_err-validity.ensures.refused)
