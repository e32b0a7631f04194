use Rattle.std.proofs.Common.{◌∙◌, Bool, length, map, ap, ap₂}
use Rattle.std.proofs.lemmas.List.{length-map}
use Rattle.arrow_columns.specs.Comparing.{under}
use Rattle.arrow_columns.proofs.Compared.{length-kept, present-with, same-bits}
use Rattle.arrow_columns.proofs.comparing.compare_present_with.Goals as goal

pub keep_present-requires : goal.keep_present-requires
keep_present-requires g c =
    let holds : g.row.T.Denot → Bool = λ x. g.E.Comparison.holds c.args.comparison.now x c.args.right in
    let raw = c.in_ok-bits.ensures ∙ c.in_ok-raw.ensures ∙ ap (map holds) c.values.ensures in
    let long = ap length raw ∙ length-map c.args.left.now.values holds in
    same-bits c.mask.result c.args.left.now.validity _ (length c.args.left.now.values) c.mask.ensures.mask long c.mask.ensures.bits

pub returns-clause-bits : goal.returns-clause-bits
returns-clause-bits g c =
    let holds : g.row.T.Denot → Bool = λ x. g.E.Comparison.holds c.args.comparison.now x c.args.right in
    let raw = c.in_ok-bits.ensures ∙ c.in_ok-raw.ensures ∙ ap (map holds) c.values.ensures in
    c.freeze.ensures
    ∙ c.keep_present.ensures
    ∙ ap₂ under c.mask.ensures.mask raw
    ∙ present-with g.T.Number.value (g.E.Comparison.holds c.args.comparison.now) g.E.RowComparison.rows (g.met.E.RowComparison.rows_law c.args.comparison.now) c.args.right c.args.left.now.validity c.args.left.now.values c.mask.ensures.bits

pub returns-clause-count : goal.returns-clause-count
returns-clause-count g c =
    let holds : g.row.T.Denot → Bool = λ x. g.E.Comparison.holds c.args.comparison.now x c.args.right in
    let raw = c.in_ok-bits.ensures ∙ c.in_ok-raw.ensures ∙ ap (map holds) c.values.ensures in
    let long = ap length raw ∙ length-map c.args.left.now.values holds in
    let first = same-bits c.mask.result c.args.left.now.validity _ (length c.args.left.now.values) c.mask.ensures.mask long c.mask.ensures.bits in
    ap length (c.freeze.ensures ∙ c.keep_present.ensures) ∙ length-kept c.mask.result c.in_ok-bits.bits first ∙ long
