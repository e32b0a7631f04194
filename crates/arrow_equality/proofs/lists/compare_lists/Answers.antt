use Rattle.std.proofs.Common.{arith}
use Rattle.arrow_equality.proofs.ListColumns.{lists-whole, lists-whole-good}
use Rattle.arrow_equality.proofs.lists.compare_lists.Goals as goal

pub returns-in-Ok-clause-compared : goal.returns-in-Ok-clause-compared
returns-in-Ok-clause-compared c =
    lists-whole c.args.left.now c.args.right.now _ _ _ _ c.in-Ok.found (omega (arith, c.if-left-ne2.false)) (omega (arith, c.if-right-ne2.false)) c.in-Ok.ensures.compared

pub returns-in-Ok-clause-good : goal.returns-in-Ok-clause-good
returns-in-Ok-clause-good c =
    lists-whole-good c.args.left.now c.args.right.now _ _ _ _ c.in-Ok.found (omega (arith, c.if-left-ne2.false)) (omega (arith, c.if-right-ne2.false)) c.in-Ok.ensures.good
