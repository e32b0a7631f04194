use Rattle.std.proofs.Common.{take}
use Rattle.diff_tables.specs.Keys.{row_keys}
use Rattle.diff_tables.specs.Strings.{AreStrings}
use Rattle.diff_tables.proofs.keys.keys_of.Given as goal

abbrev pub invariant-loop-i : goal.invariant-loop-i
invariant-loop-i l = AreStrings l.keys (row_keys l.fn.columns (take l.i l.fn.table.rows))
