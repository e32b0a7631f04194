use Rattle.diff_parts.proofs.KeptLemmas.{keeps_added, keeps_partners, keeps_places, keeps_removed, keeps_rows}
use Rattle.diff_parts.proofs.laws.law_kept_rows.Goals as goal

pub returns-clause-places : goal.returns-clause-places
returns-clause-places c = keeps_places

pub returns-clause-rows : goal.returns-clause-rows
returns-clause-rows c = keeps_rows

pub returns-clause-partners : goal.returns-clause-partners
returns-clause-partners c = keeps_partners

pub returns-clause-removed : goal.returns-clause-removed
returns-clause-removed c = keeps_removed

pub returns-clause-added : goal.returns-clause-added
returns-clause-added c = keeps_added
