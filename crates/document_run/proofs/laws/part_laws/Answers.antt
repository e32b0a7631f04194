use Rattle.document_run.proofs.PartLemmas.{keeps_documents}
use Rattle.document_run.proofs.laws.part_laws.Goals as goal

pub returns : goal.returns
returns c = keeps_documents
