use Rattle.std.specs.Prelude.{◌≤◌, length, map, string_bytes}
use Rattle.arrow_arrays.proofs.Stacks.{AreStacked}
use Rattle.arrow_arrays.proofs.build.build.Given as goal

abbrev pub invariant-loop-i : goal.invariant-loop-i
invariant-loop-i l = AreStacked l.parts l.i l.shapes.items l.stack.items (map string_bytes l.names.items) × (length l.stack.items ≤ length l.names.items)
