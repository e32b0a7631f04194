use Rattle.diff_joins.proofs.CompareLemmas.{joins_comparisons}
use Rattle.diff_joins.proofs.JoinLemmas.{joins_matchings}
use Rattle.diff_joins.proofs.PlaceLemmas.{joins_partners}
use Rattle.diff_joins.proofs.laws.law_joined.Goals as goal

pub returns-clause-partners : goal.returns-clause-partners
returns-clause-partners c = joins_partners

pub returns-clause-matchings : goal.returns-clause-matchings
returns-clause-matchings c = joins_matchings

pub returns-clause-comparisons : goal.returns-clause-comparisons
returns-clause-comparisons c = joins_comparisons
