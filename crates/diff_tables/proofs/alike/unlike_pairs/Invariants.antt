use Rattle.std.proofs.Common.{◌≤◌, ◌-◌, length}
use Rattle.polars_arrays_bytes.specs.OffsetStrings.{offset_strings}
use Rattle.diff_tables.specs.Alike.{AreSameCells, ListsAllBut}
use Rattle.diff_tables.proofs.alike.unlike_pairs.Given as goal

abbrev pub invariant-loop-start : goal.invariant-loop-start
invariant-loop-start g l = record {
  within : l.start ≤ length l.fn.left_rows;
  listed : ListsAllBut (AreSameCells l.fn.width (offset_strings g.L.Number.value l.fn.left) (offset_strings g.R.Number.value l.fn.right) l.fn.left_rows l.fn.right_rows) l.start l.places.items;
}

abbrev pub decreases-loop-start : goal.decreases-loop-start
decreases-loop-start g l = length l.fn.left_rows - l.start
