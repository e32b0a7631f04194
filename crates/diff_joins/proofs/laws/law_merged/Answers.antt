use Rattle.diff_joins.proofs.MergeLemmas.{merges_added, merges_none, merges_on, merges_pair, merges_removed}
use Rattle.diff_joins.proofs.laws.law_merged.Goals as goal

pub returns-clause-begin : goal.returns-clause-begin
returns-clause-begin c = merges_none

pub returns-clause-on : goal.returns-clause-on
returns-clause-on c = merges_on

pub returns-clause-pair : goal.returns-clause-pair
returns-clause-pair c = merges_pair

pub returns-clause-removed : goal.returns-clause-removed
returns-clause-removed c = merges_removed

pub returns-clause-added : goal.returns-clause-added
returns-clause-added c = merges_added
