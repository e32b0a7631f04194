use Rattle.std.proofs.Common.{◌≡◌, ◌+◌, ◌-◌, ◌∙◌, take, drop, ap₂, arith}
use Rattle.std.specs.Simd.Lanes.{zip2}
use Rattle.std.proofs.lemmas.Result.{MatchResult-weaker}
use Rattle.polars_arrays_flat.specs.Row.{Int}
use Rattle.polars_compare_leaves.proofs.Slots.{windows-put}
use Rattle.polars_compare_leaves.proofs.numbers.compare_number_windows.Goals as goal

pub returns : goal.returns
returns g c =
    let a = c.args.a in
    let b = c.args.b in
    let n = c.args.n in
    let left_count : a + n - a ≡ n = omega arith in
    let right_count : b + n - b ≡ n = omega arith in
    let left_window = ap₂ (λ k xs. take k (drop a xs)) left_count c.values.ensures in
    let right_window = ap₂ (λ k ys. take k (drop b ys)) right_count c.values-2.ensures in
    MatchResult-weaker c.from_values.result c.from_values.ensures
    (λ bits e.
    e
    ∙ ap₂ (zip2 (g.E.Comparison.holds c.args.comparison.now)) left_window right_window
    ∙ windows-put (λ x. Int (g.T.Number.value x)) (g.E.Comparison.holds c.args.comparison.now) g.E.RowComparison.rows (g.met.E.RowComparison.rows_law c.args.comparison.now) n a b c.args.left.now.values c.args.right.now.values)
    (λ error m. m)
