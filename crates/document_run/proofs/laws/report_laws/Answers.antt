use Rattle.document_run.proofs.LawLemmas.{changed_not_same}
use Rattle.document_run.proofs.laws.report_laws.Goals as goal

pub returns : goal.returns
returns c = changed_not_same
