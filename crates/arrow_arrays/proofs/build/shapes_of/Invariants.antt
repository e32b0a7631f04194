use Rattle.std.specs.Prelude.{take}
use Rattle.arrow_arrays.specs.Stacks.{AllFit}
use Rattle.arrow_arrays.proofs.build.shapes_of.Given as goal

abbrev pub invariant-loop-i : goal.invariant-loop-i
invariant-loop-i l = AllFit (take l.i l.parts) l.shapes.items
