use Rattle.std.proofs.Common.{◌≡◌, ◌∙◌, ◌++◌, ◌∷◌, [], ap, rules, subst, sym}
use Rattle.std.specs.Prelude.{option_copied}
use Rattle.document_rows.proofs.KnownLemmas.{some_documents}
use Rattle.document_rows.specs.Rows.{HoldsRows}
use Rattle.document_rows.proofs.known.Known.push_row.Goals as goal

pub line_of-requires-clause-documents : goal.line_of-requires-clause-documents
line_of-requires-clause-documents c =
    let (reading, keys, knows) = c.requires in
    some_documents reading keys c.in-Some.table.now (knows c.in-Some.table.now (ap option_copied c.in-Some.is))

pub push_copy-requires-clause-documents : goal.push_copy-requires-clause-documents
push_copy-requires-clause-documents c =
    let (reading, keys, knows) = c.requires in
    some_documents reading keys c.in-Some.table.now (knows c.in-Some.table.now (ap option_copied c.in-Some.is))

pub returns-clause-found : goal.returns-clause-found
returns-clause-found c = λ _ reading keys lines knows number_is held.
    let same : c.line_of.result.now ≡ c.args.line.now = search rules in
    subst (λ l. HoldsRows reading keys (lines ++ l ∷ []) c.push_copy.new.self) (sym c.line_of.ensures ∙ same)
    (c.in_ok-push_copy.ensures reading keys lines (knows c.in-Some.table.now (ap option_copied c.in-Some.is)) number_is held)
