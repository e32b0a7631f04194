use Rattle.std.proofs.Common.{subst}
use Rattle.std.proofs.lemmas.List.{append_assoc}
use Rattle.diff_tables.specs.Strings.{AreStrings}
use Rattle.schema_documents.proofs.grid.push_kind_names.Goals as goal

pub returns : goal.returns
returns c = λ all h.
    subst (λ l. AreStrings c.push_two-2.new.cells l) (append_assoc all _ _)
    (c.in_ok-push_two-2.ensures _ (c.in_ok-push_two.ensures all h))
