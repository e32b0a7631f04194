use Rattle.std.proofs.Common.{subst}
use Rattle.std.proofs.lemmas.Option.{same_Some}
use Rattle.document_rows.specs.Known.{HoldsDocumentsOf}
use Rattle.document_rows.proofs.known.Known.of.Goals as goal

pub returns : goal.returns
returns c = λ reading keys h t is. subst (HoldsDocumentsOf reading keys) (same_Some c.args.table.now t is) h
