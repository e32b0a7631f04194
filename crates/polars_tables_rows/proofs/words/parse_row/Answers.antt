use Rattle.std.proofs.Common.{rules}
use Rattle.polars_tables_rows.proofs.words.parse_row.Goals as goal

pub returns-then-is_same : goal.returns-then-is_same
returns-then-is_same c = search rules
