use Rattle.std.proofs.lemmas.Result.{err_from_is_err_and}
use Rattle.arrow_arrays.proofs.Stacks.{fit-all, fit-next, shape-refused}
use Rattle.arrow_arrays.proofs.build.shapes_of.Goals as goal

pub loop-i-preserved : goal.loop-i-preserved
loop-i-preserved c = fit-next c.args.parts.now c.loop-i.i _ c.loop-i.shapes.items c.put_shape.new.shapes.items c.loop-i-test.true c.loop-i.invariant c.in_ok-put_shape.ensures.put

pub returns-clause-fit : goal.returns-clause-fit
returns-clause-fit c = fit-all c.args.parts.now c.loop-i.i c.loop-i.shapes.items c.loop-i-test.false c.loop-i.invariant

pub returns-in_err-put_shape-clause-refused : goal.returns-in_err-put_shape-clause-refused
returns-in_err-put_shape-clause-refused c =
    let p = err_from_is_err_and c.from_residual-in_err-put_shape.result c.from_residual-in_err-put_shape.ensures.1 in
    rw (p.1, p.2) (shape-refused c.args.parts.now c.loop-i.i _ _ c.loop-i-test.true c.in_err-put_shape.ensures.refused)
