use Rattle.std.proofs.Common.{◌∙◌, ◌++◌, ◌∷◌, [], ap, sym}
use Rattle.schema_run.proofs.SchemaLemmas.{range_more}
use Rattle.schema_run.proofs.read.all_columns.Goals as goal

pub loop-column-preserved : goal.loop-column-preserved
loop-column-preserved c = c.in_ok-push.ensures.items ∙ (ap (λ l. l ++ c.loop-column.column ∷ []) c.loop-column.invariant ∙ sym (range_more c.loop-column.column))
