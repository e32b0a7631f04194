use Rattle.std.proofs.Common.{rules}
use Rattle.diff_csv.proofs.row_reader.first_row.Goals as goal

pub returns-then-has_header : goal.returns-then-has_header
returns-then-has_header c = search rules

pub returns-else-has_header : goal.returns-else-has_header
returns-else-has_header c = search rules
