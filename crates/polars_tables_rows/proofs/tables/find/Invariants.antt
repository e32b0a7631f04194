use Rattle.std.proofs.Common.{◌≡◌, drop, map}
use Rattle.polars_tables_rows.specs.Tables.{find}
use Rattle.polars_tables_rows.proofs.tables.find.Given as goal

abbrev pub invariant-loop-line : goal.invariant-loop-line
invariant-loop-line g l = find (map (λ line. (line.0.now, line.1)) (drop l.line-index l.table)) l.name ≡ find (map (λ line. (line.0.now, line.1)) l.table) l.name
