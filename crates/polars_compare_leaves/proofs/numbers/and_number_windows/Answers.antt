use Rattle.std.proofs.Common.{◌≡◌, ◌+◌, ◌-◌, ◌∙◌, ◌&&◌, length, take, drop, ap, ap₂, arith}
use Rattle.std.specs.Simd.Lanes.{zip2}
use Rattle.polars_arrays_flat.specs.Row.{Int}
use Rattle.polars_compare_leaves.proofs.Slots.{windows-put}
use Rattle.polars_compare_leaves.proofs.numbers.and_number_windows.Goals as goal

pub returns : goal.returns
returns g c =
    let a = c.args.a in
    let b = c.args.b in
    let n = length c.args.bits.now in
    let xs = c.args.left.now.values in
    let ys = c.args.right.now.values in
    let left_count : a + c.len-n.result - a ≡ n = omega (arith, c.len-n.ensures) in
    let right_count : b + c.len-n.result - b ≡ n = omega (arith, c.len-n.ensures) in
    let left_window = ap₂ (λ k zs. take k (drop a zs)) left_count c.values-left.ensures in
    let right_window = ap₂ (λ k zs. take k (drop b zs)) right_count c.values-right.ensures in
    let raw = ap₂ (zip2 (g.E.Comparison.holds c.args.comparison.now)) left_window right_window
    ∙ windows-put (λ x. Int (g.T.Number.value x)) (g.E.Comparison.holds c.args.comparison.now) g.E.RowComparison.rows (g.met.E.RowComparison.rows_law c.args.comparison.now) n a b xs ys in
    c.and_pairs.ensures ∙ ap (zip2 ◌&&◌ c.args.bits.now) raw
