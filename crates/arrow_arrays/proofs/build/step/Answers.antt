use Rattle.std.specs.Prelude.{map, string_bytes}
use Rattle.std.proofs.lemmas.Result.{err_from_is_err_and}
use Rattle.arrow_arrays.proofs.Stacks.{pushed-step}
use Rattle.arrow_arrays.proofs.build.step.Goals as goal

pub returns-clause-made : goal.returns-clause-made
returns-clause-made c = pushed-step c.args.count c.args.shapes.now.items c.filled.new.shapes.items c.args.stack.now.items c.filled.new.stack.items c.push.new.self.items (map string_bytes c.args.names.now.items) (map string_bytes c.filled.new.names.items) c.in_ok-array.array c.in_ok-array.ensures.made c.in_ok-push.ensures.items

pub returns-in_err-array-clause-refused : goal.returns-in_err-array-clause-refused
returns-in_err-array-clause-refused c =
    let p = err_from_is_err_and c.from_residual.result c.from_residual.ensures.1 in
    rw (p.1, p.2) c.in_err-array.ensures.refused

pub returns-in_err-push-clause-refused : goal.returns-in_err-push-clause-refused
returns-in_err-push-clause-refused c =
    let p = err_from_is_err_and c.from_residual-in_err-push.result c.from_residual-in_err-push.ensures.1 in
    rw (p.1, p.2) (λ q qs cs same fit all. tt)
