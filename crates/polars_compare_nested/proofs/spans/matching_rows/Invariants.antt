use Rattle.std.proofs.Common.{◌-◌, ◌≤◌}
use Rattle.polars_compare_nested.specs.Runs.{Match}
use Rattle.polars_compare_nested.proofs.spans.matching_rows.Given as goal

abbrev pub invariant-loop-done : goal.invariant-loop-done
invariant-loop-done g l = (l.done ≤ l.n) × Match l.left l.a l.right l.b l.done

abbrev pub decreases-loop-done : goal.decreases-loop-done
decreases-loop-done g l = l.n - l.done
