use Rattle.std.proofs.lemmas.Result.{err_from_is_err_and}
use Rattle.arrow_arrays.proofs.Stacks.{fit-more}
use Rattle.arrow_arrays.proofs.build.put_shape.Goals as goal

pub returns-clause-put : goal.returns-clause-put
returns-clause-put c ps all = fit-more ps c.args.shapes.now.items c.push.new.self.items c.args.part.now c.in_ok-shape.shape c.in_ok-push.ensures.items all c.in_ok-shape.ensures.made

pub returns-in_err-shape-clause-refused : goal.returns-in_err-shape-clause-refused
returns-in_err-shape-clause-refused c =
    let p = err_from_is_err_and c.from_residual.result c.from_residual.ensures.1 in
    rw (p.1, p.2) c.in_err-shape.ensures.refused

pub returns-in_err-push-clause-refused : goal.returns-in_err-push-clause-refused
returns-in_err-push-clause-refused c =
    let p = err_from_is_err_and c.from_residual-in_err-push.result c.from_residual-in_err-push.ensures.1 in
    rw (p.1, p.2) (λ cs. tt)
