use Rattle.std.proofs.Common.{◌∙◌}
use Rattle.std.proofs.lemmas.Result.{MatchResult-weaker}
use Rattle.polars_arrays_bits.specs.Logic.{and_not}
use Rattle.polars_arrays_flat.specs.Row.{Truth}
use Rattle.polars_compare_leaves.specs.Order.{row_less}
use Rattle.polars_compare_leaves.proofs.Truths.{zip2-turned, and_not-turned}
use Rattle.polars_compare_leaves.proofs.booleans.LessTruthComparison.compare_bits.Goals as goal

pub returns : goal.returns
returns c =
    MatchResult-weaker c.and_not.result c.and_not.ensures
    (λ bits e. e ∙ zip2-turned and_not (λ l r. row_less (Truth l) (Truth r)) and_not-turned c.args.left.now c.args.right.now)
    (λ error m. m)
