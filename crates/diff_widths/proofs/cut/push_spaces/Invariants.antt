use Rattle.std.proofs.Common.{◌≡◌, ◌++◌}
use Rattle.diff_widths.specs.Cut.{spaces}
use Rattle.diff_widths.proofs.cut.push_spaces.Given as goal

abbrev pub invariant-loop-done : goal.invariant-loop-done
invariant-loop-done l = l.out.items ≡ l.fn.out.items ++ spaces l._done
