use Rattle.std.proofs.Common.{◌∙◌, length, sym, ap, ap₂}
use Rattle.std.proofs.lemmas.Simd.{length-zip2}
use Rattle.std.specs.Simd.Lanes.{zip2}
use Rattle.arrow_columns.specs.Comparing.{under}
use Rattle.arrow_columns.proofs.Compared.{length-kept, present-rows, same-bits}
use Rattle.arrow_columns.proofs.comparing.compare_present.Goals as goal

pub keep_present-requires : goal.keep_present-requires
keep_present-requires g c =
    let holds = g.E.Comparison.holds c.args.comparison.now in
    let raw = c.in_ok-bits.ensures ∙ c.in_ok-raw.ensures ∙ ap₂ (zip2 holds) c.values.ensures c.values-2.ensures in
    let long = ap length raw ∙ length-zip2 holds c.args.left.now.values c.args.right.now.values (sym c.requires) in
    same-bits c.mask.result c.args.left.now.validity _ (length c.args.left.now.values) c.mask.ensures.mask long c.mask.ensures.bits

pub keep_present-requires-2 : goal.keep_present-requires-2
keep_present-requires-2 g c =
    let holds = g.E.Comparison.holds c.args.comparison.now in
    let raw = c.in_ok-bits.ensures ∙ c.in_ok-raw.ensures ∙ ap₂ (zip2 holds) c.values.ensures c.values-2.ensures in
    let long = ap length raw ∙ length-zip2 holds c.args.left.now.values c.args.right.now.values (sym c.requires) in
    let first = same-bits c.mask.result c.args.left.now.validity _ (length c.args.left.now.values) c.mask.ensures.mask long c.mask.ensures.bits in
    let kept = ap length c.keep_present.ensures ∙ length-kept c.mask.result c.in_ok-bits.bits first ∙ long ∙ sym c.requires in
    same-bits c.mask-2.result c.args.right.now.validity _ (length c.args.right.now.values) c.mask-2.ensures.mask kept c.mask-2.ensures.bits

pub returns-clause-bits : goal.returns-clause-bits
returns-clause-bits g c =
    let holds = g.E.Comparison.holds c.args.comparison.now in
    let raw = c.in_ok-bits.ensures ∙ c.in_ok-raw.ensures ∙ ap₂ (zip2 holds) c.values.ensures c.values-2.ensures in
    c.freeze.ensures
    ∙ c.keep_present-2.ensures
    ∙ ap₂ under c.mask-2.ensures.mask (c.keep_present.ensures ∙ ap₂ under c.mask.ensures.mask raw)
    ∙ present-rows g.E.RowComparison.rows g.T.Number.value holds (g.met.E.RowComparison.rows_law c.args.comparison.now) c.args.left.now.validity c.args.right.now.validity c.args.left.now.values c.args.right.now.values c.mask.ensures.bits c.mask-2.ensures.bits

pub returns-clause-count : goal.returns-clause-count
returns-clause-count g c =
    let holds = g.E.Comparison.holds c.args.comparison.now in
    let raw = c.in_ok-bits.ensures ∙ c.in_ok-raw.ensures ∙ ap₂ (zip2 holds) c.values.ensures c.values-2.ensures in
    let long = ap length raw ∙ length-zip2 holds c.args.left.now.values c.args.right.now.values (sym c.requires) in
    let first = same-bits c.mask.result c.args.left.now.validity _ (length c.args.left.now.values) c.mask.ensures.mask long c.mask.ensures.bits in
    let kept = ap length c.keep_present.ensures ∙ length-kept c.mask.result c.in_ok-bits.bits first ∙ long in
    let second = same-bits c.mask-2.result c.args.right.now.validity _ (length c.args.right.now.values) c.mask-2.ensures.mask (kept ∙ sym c.requires) c.mask-2.ensures.bits in
    ap length (c.freeze.ensures ∙ c.keep_present-2.ensures) ∙ length-kept c.mask-2.result c.keep_present.new.bits second ∙ kept
