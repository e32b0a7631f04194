use Rattle.diff_tables.proofs.CompareLemmas.{keys_fault}
use Rattle.diff_tolerances.proofs.partners.matched_with.Goals as goal

pub returns : goal.returns
returns c = keys_fault _ _ _ c.in-Err.error c.in-Ok.ensures c.in-Err.ensures.matching
