use Rattle.std.proofs.Common.{◌∙◌, Bool, length, map, ap, ap₂}
use Rattle.std.proofs.lemmas.List.{length-map}
use Rattle.arrow_columns.specs.Comparing.{under}
use Rattle.arrow_arithmetic.specs.Answers.{is_answered}
use Rattle.arrow_arithmetic.proofs.PresentBits.{length-under, same-bits}
use Rattle.arrow_arithmetic.proofs.present.present_rows.Goals as goal

pub keep_present-requires : goal.keep_present-requires
keep_present-requires g c =
    let has : g.row.T.Denot → Bool = λ x. is_answered c.args.answered (g.T.Number.value x) in
    let raw = c.in_ok-bits.ensures ∙ c.in_ok-raw.ensures ∙ ap (map has) c.values.ensures in
    let long = ap length raw ∙ length-map c.args.column.now.values has in
    same-bits c.mask.result c.args.column.now.validity _ (length c.args.column.now.values) c.mask.ensures.mask long c.mask.ensures.bits

pub returns-clause-bits : goal.returns-clause-bits
returns-clause-bits g c =
    let has : g.row.T.Denot → Bool = λ x. is_answered c.args.answered (g.T.Number.value x) in
    let raw = c.in_ok-bits.ensures ∙ c.in_ok-raw.ensures ∙ ap (map has) c.values.ensures in
    c.freeze.ensures ∙ c.keep_present.ensures ∙ ap₂ under c.mask.ensures.mask raw

pub returns-clause-count : goal.returns-clause-count
returns-clause-count g c =
    let has : g.row.T.Denot → Bool = λ x. is_answered c.args.answered (g.T.Number.value x) in
    let raw = c.in_ok-bits.ensures ∙ c.in_ok-raw.ensures ∙ ap (map has) c.values.ensures in
    let long = ap length raw ∙ length-map c.args.column.now.values has in
    let first = same-bits c.mask.result c.args.column.now.validity _ (length c.args.column.now.values) c.mask.ensures.mask long c.mask.ensures.bits in
    ap length (c.freeze.ensures ∙ c.keep_present.ensures) ∙ length-under c.mask.result c.in_ok-bits.bits first ∙ long
