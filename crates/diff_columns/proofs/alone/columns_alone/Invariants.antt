use Rattle.diff_keys.specs.Rising.{ListsRising}
use Rattle.diff_columns.specs.Layout.{IsAlone}
use Rattle.diff_columns.proofs.alone.columns_alone.Given as goal

abbrev pub invariant-loop-i : goal.invariant-loop-i
invariant-loop-i g l = ListsRising (IsAlone l.choice (g.N.ByteRows.strings l.names) (g.O.ByteRows.strings l.others)) l.i l.alone.items
