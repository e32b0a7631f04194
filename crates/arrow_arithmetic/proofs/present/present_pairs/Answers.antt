use Rattle.std.proofs.Common.{◌∙◌, Bool, length, map, sym, ap, ap₂}
use Rattle.std.proofs.lemmas.List.{length-map}
use Rattle.arrow_columns.specs.Comparing.{under}
use Rattle.arrow_arithmetic.specs.Answers.{is_answered}
use Rattle.arrow_arithmetic.proofs.PresentBits.{length-under, same-bits}
use Rattle.arrow_arithmetic.proofs.present.present_pairs.Goals as goal

pub keep_present-requires : goal.keep_present-requires
keep_present-requires g c =
    let has : g.row.T.Denot → Bool = λ x. is_answered c.args.answered (g.T.Number.value x) in
    let raw = c.in_ok-bits.ensures ∙ c.in_ok-raw.ensures ∙ ap (map has) c.values.ensures in
    let long = ap length raw ∙ length-map c.args.right.now.values has ∙ c.requires in
    same-bits c.mask.result c.args.left.now.validity _ (length c.args.left.now.values) c.mask.ensures.mask long c.mask.ensures.bits

pub keep_present-requires-2 : goal.keep_present-requires-2
keep_present-requires-2 g c =
    let has : g.row.T.Denot → Bool = λ x. is_answered c.args.answered (g.T.Number.value x) in
    let raw = c.in_ok-bits.ensures ∙ c.in_ok-raw.ensures ∙ ap (map has) c.values.ensures in
    let long = ap length raw ∙ length-map c.args.right.now.values has ∙ c.requires in
    let first = same-bits c.mask.result c.args.left.now.validity _ (length c.args.left.now.values) c.mask.ensures.mask long c.mask.ensures.bits in
    let kept = ap length c.keep_present.ensures ∙ length-under c.mask.result c.in_ok-bits.bits first ∙ long ∙ sym c.requires in
    same-bits c.mask-2.result c.args.right.now.validity _ (length c.args.right.now.values) c.mask-2.ensures.mask kept c.mask-2.ensures.bits

pub returns-clause-bits : goal.returns-clause-bits
returns-clause-bits g c =
    let has : g.row.T.Denot → Bool = λ x. is_answered c.args.answered (g.T.Number.value x) in
    let raw = c.in_ok-bits.ensures ∙ c.in_ok-raw.ensures ∙ ap (map has) c.values.ensures in
    c.freeze.ensures
    ∙ c.keep_present-2.ensures
    ∙ ap₂ under c.mask-2.ensures.mask (c.keep_present.ensures ∙ ap₂ under c.mask.ensures.mask raw)

pub returns-clause-count : goal.returns-clause-count
returns-clause-count g c =
    let has : g.row.T.Denot → Bool = λ x. is_answered c.args.answered (g.T.Number.value x) in
    let raw = c.in_ok-bits.ensures ∙ c.in_ok-raw.ensures ∙ ap (map has) c.values.ensures in
    let long = ap length raw ∙ length-map c.args.right.now.values has ∙ c.requires in
    let first = same-bits c.mask.result c.args.left.now.validity _ (length c.args.left.now.values) c.mask.ensures.mask long c.mask.ensures.bits in
    let kept = ap length c.keep_present.ensures ∙ length-under c.mask.result c.in_ok-bits.bits first ∙ long in
    let second = same-bits c.mask-2.result c.args.right.now.validity _ (length c.args.right.now.values) c.mask-2.ensures.mask (kept ∙ sym c.requires) c.mask-2.ensures.bits in
    ap length (c.freeze.ensures ∙ c.keep_present-2.ensures) ∙ length-under c.mask-2.result c.keep_present.new.bits second ∙ kept
