use Rattle.document_run.proofs.SideLemmas.{documents_named}
use Rattle.document_run.proofs.report.text_of.Goals as goal

pub push_document_report-requires-clause-rows : goal.push_document_report-requires-clause-rows
push_document_report-requires-clause-rows c = rw c.deref.ensures.value (documents_named c.args.options.now c.args.sides.now c.args.found.now c.requires.found)
