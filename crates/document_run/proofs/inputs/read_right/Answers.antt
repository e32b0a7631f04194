use Rattle.document_run.proofs.inputs.read_right.Goals as goal

pub read_documents_beside-requires : goal.read_documents_beside-requires
read_documents_beside-requires g c = (c.requires.all, c.requires.table)
