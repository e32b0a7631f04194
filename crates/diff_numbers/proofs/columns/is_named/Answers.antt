use Rattle.std.proofs.Common.{◌∙◌}
use Rattle.diff_numbers.proofs.RowLemmas.{named_lent}
use Rattle.diff_numbers.proofs.columns.is_named.Goals as goal

pub returns : goal.returns
returns c = c.contains.ensures.value ∙ named_lent c.args.names.now c.args.name.now
