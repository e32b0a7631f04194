use Rattle.std.proofs.Common.{arith}
use Rattle.arrow_equality.proofs.StringColumns.{lone-good}
use Rattle.arrow_equality.proofs.equal.compare_whole.Goals as goal

pub returns-in-Some-clause-good : goal.returns-in-Some-clause-good
returns-in-Some-clause-good c =
    lone-good c.args.left.now c.args.right.now _ _ c.in_ok-found.found c.in-Some.compared (omega (arith, c.if-left-ne1.false)) (omega (arith, c.if-right-ne1.false)) c.in-Some.is c.in_ok-found.ensures.good
