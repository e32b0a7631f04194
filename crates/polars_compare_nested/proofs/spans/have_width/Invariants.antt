use Rattle.std.proofs.Common.{◌-◌, ◌≤◌}
use Rattle.polars_arrays_bytes.specs.OffsetStrings.{places}
use Rattle.polars_compare_nested.specs.Runs.{HaveWidth}
use Rattle.polars_compare_nested.proofs.spans.have_width.Given as goal

abbrev pub invariant-loop-done : goal.invariant-loop-done
invariant-loop-done g l = (l.done ≤ l.rows) × HaveWidth (places g.O.Number.value l.offsets) l.a l.done l.width

abbrev pub decreases-loop-done : goal.decreases-loop-done
decreases-loop-done g l = l.rows - l.done
