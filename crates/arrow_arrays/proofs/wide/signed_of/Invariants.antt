use Rattle.std.specs.Prelude.{◌≡◌, ◌≤◌, map, take, vec_capacity, length}
use Rattle.arrow_parts.specs.Lent.{signed_wide}
use Rattle.arrow_arrays.proofs.wide.signed_of.Given as goal

abbrev pub invariant-loop-i : goal.invariant-loop-i
invariant-loop-i l = (l.all.items ≡ map signed_wide (take l.i l.unsigned.items)) × (length l.unsigned.items ≤ vec_capacity l.all)
