use Rattle.std.proofs.Common.{◌∙◌}
use Rattle.std.proofs.lemmas.Result.{MatchResult-weaker}
use Rattle.polars_arrays_bits.specs.Logic.{or_not}
use Rattle.polars_arrays_flat.specs.Row.{Truth}
use Rattle.polars_compare_leaves.specs.Order.{row_at_most}
use Rattle.polars_compare_leaves.proofs.Truths.{zip2-turned, or_not-turned}
use Rattle.polars_compare_leaves.proofs.booleans.LessOrEqualTruthComparison.compare_bits.Goals as goal

pub returns : goal.returns
returns c =
    MatchResult-weaker c.or_not.result c.or_not.ensures
    (λ bits e. e ∙ zip2-turned or_not (λ l r. row_at_most (Truth l) (Truth r)) or_not-turned c.args.left.now c.args.right.now)
    (λ error m. m)
