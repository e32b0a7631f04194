use Rattle.diff_joins.proofs.MoreLemmas.{matches_added, matches_pair, matches_removed}
use Rattle.diff_joins.proofs.laws.law_one_row_more.Goals as goal

pub returns-clause-pair : goal.returns-clause-pair
returns-clause-pair c = matches_pair

pub returns-clause-removed : goal.returns-clause-removed
returns-clause-removed c = matches_removed

pub returns-clause-added : goal.returns-clause-added
returns-clause-added c = matches_added
