use Rattle.diff_columns.specs.Pairs.{ArePairs}
use Rattle.diff_columns.proofs.pairs.compared_pairs.Given as goal

abbrev pub invariant-loop-i : goal.invariant-loop-i
invariant-loop-i g l = ArePairs l.choice (g.L.ByteRows.strings l.left) (g.R.ByteRows.strings l.right) l.i l.left_columns.items l.right_columns.items
