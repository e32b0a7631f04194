use Rattle.std.proofs.Common.{◌∙◌, ℕ, List, sym, ap}
use Rattle.std.specs.Prelude.{Ok}
use Rattle.polars_tables_operations.proofs.Lists.{one-ok}
use Rattle.polars_tables_operations.proofs.numeric.answer_sum.Goals as goal

pub returns : goal.returns
returns g c = one-ok _ _ _ _ c.in_ok-rows.ensures ∙ ap (λ (text : List ℕ). Ok text) (sym c.in_ok-write_sum.ensures)
