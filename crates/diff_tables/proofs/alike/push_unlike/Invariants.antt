use Rattle.polars_arrays_bytes.specs.OffsetStrings.{offset_strings}
use Rattle.diff_tables.specs.Alike.{AreSameCells, ListsAllBut}
use Rattle.diff_tables.proofs.alike.push_unlike.Given as goal

abbrev pub invariant-loop-p : goal.invariant-loop-p
invariant-loop-p g l = ListsAllBut (AreSameCells l.fn.width (offset_strings g.L.Number.value l.fn.left) (offset_strings g.R.Number.value l.fn.right) l.fn.left_rows l.fn.right_rows) l.fn.start l.fn.places.items
    → ListsAllBut (AreSameCells l.fn.width (offset_strings g.L.Number.value l.fn.left) (offset_strings g.R.Number.value l.fn.right) l.fn.left_rows l.fn.right_rows) l.p l.places.items
