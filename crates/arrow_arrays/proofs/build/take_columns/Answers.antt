use Rattle.std.proofs.Common.{arith}
use Rattle.arrow_arrays.proofs.Stacks.{taken-length}
use Rattle.arrow_arrays.proofs.build.take_columns.Goals as goal

pub returns-in-None-clause-refused : goal.returns-in-None-clause-refused
returns-in-None-clause-refused c enough =
    omega (arith, enough, taken-length c.loop-taken._taken c.loop-taken.columns.items c.args.stack.now.items c.loop-taken.stack.items c.loop-taken.invariant.1, c.loop-taken-test.true, c.in-None.ensures.cases)
