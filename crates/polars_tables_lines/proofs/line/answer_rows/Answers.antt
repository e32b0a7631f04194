use Rattle.std.proofs.Common.{rules}
use Rattle.polars_tables_lines.proofs.line.answer_rows.Goals as goal

pub returns-in-U32 : goal.returns-in-U32
returns-in-U32 c = search rules
