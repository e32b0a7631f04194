use Rattle.json_changes.proofs.ApartLemmas.{paths_part}
use Rattle.json_changes.proofs.LeadLemmas.{paths_lead}
use Rattle.json_changes.proofs.MissedLemmas.{none_is_missed}
use Rattle.json_changes.proofs.RealLemmas.{each_is_real, each_is_smallest}
use Rattle.json_changes.proofs.SameLemmas.{none_where_same}
use Rattle.json_changes.proofs.laws.change_laws.Goals as goal

pub returns-clause-none_where_same : goal.returns-clause-none_where_same
returns-clause-none_where_same c = none_where_same

pub returns-clause-paths_lead : goal.returns-clause-paths_lead
returns-clause-paths_lead c = paths_lead

pub returns-clause-each_is_real : goal.returns-clause-each_is_real
returns-clause-each_is_real c = each_is_real

pub returns-clause-none_is_missed : goal.returns-clause-none_is_missed
returns-clause-none_is_missed c = none_is_missed

pub returns-clause-paths_part : goal.returns-clause-paths_part
returns-clause-paths_part c = paths_part

pub returns-clause-each_is_smallest : goal.returns-clause-each_is_smallest
returns-clause-each_is_smallest c = each_is_smallest
