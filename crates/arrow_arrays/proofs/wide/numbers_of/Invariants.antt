use Rattle.std.specs.Prelude.{◌≡◌, ◌≤◌, ◌*◌, ◌/◌, take, vec_capacity, length}
use Rattle.arrow_parts.specs.Lent.{wide_numbers}
use Rattle.arrow_arrays.proofs.wide.numbers_of.Given as goal

abbrev pub invariant-loop-i : goal.invariant-loop-i
invariant-loop-i l = (l.all.items ≡ wide_numbers (take (2 * l.i) l.words)) × (length l.all.items ≡ l.i) × (length l.words / 2 ≤ vec_capacity l.all)
