use Rattle.std.proofs.Common.{◌≡◌, ◌+◌, ◌-◌, ◌∙◌, length, take, drop, sym, ap, ap₂, arith}
use Rattle.std.proofs.lemmas.List.{length-take, length-drop}
use Rattle.std.specs.Simd.Lanes.{zip2}
use Rattle.polars_arrays_flat.specs.Row.{Int}
use Rattle.polars_arrays_words.specs.Bits.{first_of, is_bit}
use Rattle.polars_compare_leaves.proofs.Slots.{windows-put}
use Rattle.polars_compare_leaves.proofs.numbers.compare_few_numbers.Goals as goal

pub returns-clause-bits : goal.returns-clause-bits
returns-clause-bits g c =
    let a = c.args.a in
    let b = c.args.b in
    let n = c.args.n in
    let xs = c.args.left.now.values in
    let ys = c.args.right.now.values in
    let left_count : a + n - a ≡ n = omega arith in
    let right_count : b + n - b ≡ n = omega arith in
    let left_window = ap₂ (λ k zs. take k (drop a zs)) left_count c.values-left.ensures in
    let right_window = ap₂ (λ k zs. take k (drop b zs)) right_count c.values-right.ensures in
    let long : length (take n (drop a xs)) ≡ n = omega (arith, length-take n (drop a xs), length-drop a xs, c.requires.left_in) in
    sym (ap (first_of (is_bit c.compare_few.result)) (ap length left_window ∙ long))
    ∙ c.compare_few.ensures.bits
    ∙ ap₂ (zip2 (g.E.Comparison.holds c.args.comparison.now)) left_window right_window
    ∙ windows-put (λ x. Int (g.T.Number.value x)) (g.E.Comparison.holds c.args.comparison.now) g.E.RowComparison.rows (g.met.E.RowComparison.rows_law c.args.comparison.now) n a b xs ys
