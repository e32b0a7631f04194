use Rattle.std.proofs.Common.{◌≡◌, take}
use Rattle.diff_merge.specs.Rows.{cells_of}
use Rattle.diff_tables.specs.Keys.{row_key}
use Rattle.diff_merge.proofs.keys.write_key.Given as goal

abbrev pub invariant-loop-column : goal.invariant-loop-column
invariant-loop-column l = l.key.items ≡ row_key (take l.column-index l.columns) (cells_of l.row)
