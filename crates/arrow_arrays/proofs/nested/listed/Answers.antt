use Rattle.std.proofs.lemmas.Result.{err_from_is_err_and}
use Rattle.arrow_arrays.proofs.Standing.{lists-one, not-one, one-can, one-fills, one-refused}
use Rattle.arrow_arrays.specs.declared.shapes.Shape.TheVariants.{Lists}
use Rattle.arrow_arrays.proofs.nested.listed.Goals as goal

pub returns-clause-made : goal.returns-clause-made
returns-clause-made c = one-fills c.args.inside.fields.items c.args.inside.columns.items c.in_ok-items.items c.in_ok-array.array (Lists c.args.offsets c.args.validity) c.in_ok-items.ensures.one c.in_ok-array.ensures.made

pub returns-clause-can : goal.returns-clause-can
returns-clause-can c = one-can (Lists c.args.offsets c.args.validity) c.args.inside.columns.items c.in_ok-items.items c.in_ok-items.ensures.one c.in_ok-array.ensures.can

pub returns-in_err-items-clause-refused : goal.returns-in_err-items-clause-refused
returns-in_err-items-clause-refused c =
    let p = err_from_is_err_and c.from_residual.result c.from_residual.ensures.1 in
    rw (p.1, p.2) (not-one (Lists c.args.offsets c.args.validity) c.args.inside.columns.items _ (lists-one c.args.offsets c.args.validity) c.in_err-items.ensures.refused)

pub returns-in_err-array-clause-refused : goal.returns-in_err-array-clause-refused
returns-in_err-array-clause-refused c =
    let p = err_from_is_err_and c.from_residual-in_err-array.result c.from_residual-in_err-array.ensures.1 in
    rw (p.1, p.2) (one-refused (Lists c.args.offsets c.args.validity) c.args.inside.columns.items c.in_ok-items.items _ c.in_ok-items.ensures.one c.in_err-array.ensures.refused)
