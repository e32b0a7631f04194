use Rattle.diff_tables.proofs.CompareLemmas.{compare_fault}
use Rattle.diff_tolerances.proofs.partners.matched.Goals as goal

pub returns : goal.returns
returns c = compare_fault c.args.columns.now c.args.left.now.rows c.args.right.now.rows _ c.in-Err.error c.in-Ok.ensures c.in-Err.ensures
