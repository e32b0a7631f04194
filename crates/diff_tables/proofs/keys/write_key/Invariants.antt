use Rattle.std.proofs.Common.{◌≡◌, [], get_or, take}
use Rattle.diff_tables.specs.Keys.{row_key}
use Rattle.diff_tables.proofs.keys.write_key.Given as goal

abbrev pub invariant-loop-column : goal.invariant-loop-column
invariant-loop-column l = l.key.items ≡ row_key (take l.column-index l.columns) (get_or l.fn.table.rows l.fn.i [])
