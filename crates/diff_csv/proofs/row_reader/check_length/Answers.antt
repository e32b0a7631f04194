use Rattle.std.proofs.Common.{◌∙◌, sym}
use Rattle.diff_csv.proofs.row_reader.check_length.Goals as goal

pub returns-then-found-width : goal.returns-then-found-width
returns-then-found-width c = sym c.len-found.ensures ∙ c.if-found-width.true
