use Rattle.std.specs.Prelude.{◌≤◌, length}
use Rattle.std.specs.Prelude.{vec_capacity}
use Rattle.arrow_arrays.specs.Stacks.{AreTaken}
use Rattle.arrow_arrays.proofs.build.take_columns.Given as goal

abbrev pub invariant-loop-taken : goal.invariant-loop-taken
invariant-loop-taken l = (l.count ≤ vec_capacity l.columns) × AreTaken l._taken l.columns.items l.fn.stack.items l.stack.items × (l.count ≤ length l.fn.stack.items)
