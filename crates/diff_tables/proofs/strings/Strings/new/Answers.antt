use Rattle.std.proofs.Common.{◌∙◌, ◌++◌, ◌∷◌, [], ap}
use Rattle.std.specs.Prelude.{pos}
use Rattle.diff_tables.proofs.GroupLemmas.{no_strings}
use Rattle.diff_tables.proofs.strings.Strings.new.Goals as goal

pub returns : goal.returns
returns c = no_strings _ (c.in_ok-push.ensures.items ∙ ap (λ l. l ++ pos 0 ∷ []) c.new-ends.ensures.items) c.new-far_ends.ensures.items c.new-bytes.ensures.items
