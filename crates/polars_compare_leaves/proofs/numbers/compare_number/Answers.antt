use Rattle.std.proofs.Common.{◌∙◌, ap, map}
use Rattle.std.proofs.lemmas.Result.{MatchResult-weaker}
use Rattle.polars_arrays_flat.specs.Row.{Int}
use Rattle.polars_compare_leaves.proofs.Slots.{constant-put}
use Rattle.polars_compare_leaves.proofs.numbers.compare_number.Goals as goal

pub returns : goal.returns
returns g c =
    MatchResult-weaker c.compare_constant.result c.compare_constant.ensures
    (λ bits e.
    e
    ∙ ap (map (λ l. g.E.Comparison.holds c.args.comparison.now l c.args.right)) c.values.ensures
    ∙ constant-put (λ x. Int (g.T.Number.value x)) (g.E.Comparison.holds c.args.comparison.now) g.E.RowComparison.rows (g.met.E.RowComparison.rows_law c.args.comparison.now) c.args.left.now.values c.args.right)
    (λ error m. m)
