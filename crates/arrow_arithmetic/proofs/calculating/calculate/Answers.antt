use Rattle.std.proofs.Common.{◌∙◌, map, ap, ap₂}
use Rattle.std.specs.Simd.Lanes.{zip2}
use Rattle.num_traits.specs.Laws.{bit_len}
use Rattle.arrow_columns.specs.Comparing.{under}
use Rattle.arrow_arithmetic.specs.Answers.{is_answered, rights_of}
use Rattle.arrow_arithmetic.specs.Arithmetic.{operation_of}
use Rattle.arrow_arithmetic.specs.declared.present.Answered.{Answered}
use Rattle.polars_arrays_numbers.specs.Wrapping.{wrapped}
use Rattle.polars_compute_arithmetic.specs.Operations.{or_zero}
use Rattle.arrow_arithmetic.proofs.Results.{pair-rows, rights-law}
use Rattle.arrow_arithmetic.proofs.calculating.calculate.Goals as goal

pub returns-clause-rows : goal.returns-clause-rows
returns-clause-rows g c =
    let value = g.T.Number.value in
    let low = g.T.Bounded.low in
    let width = bit_len g.T.FixedWidth.width in
    let op = operation_of c.args.arithmetic in
    let l = c.args.left.now.validity in
    let r = c.args.right.now.validity in
    let ys = c.args.right.now.values in
    pair-rows value low width op (λ y. is_answered (rights_of c.args.arithmetic) (value y)) (λ a y. rights-law c.args.arithmetic a (value y)) l r c.args.left.now.values ys c.write_pairs.new.out c.in_ok-present.present
    (c.in_ok-present.ensures.bits ∙ ap (λ (answered : Answered). under r (under l (map (λ y. is_answered answered (value y)) ys))) c.answered_rights.ensures)
    (c.write_pairs.ensures ∙ ap₂ (zip2 (λ x y. wrapped low width (or_zero (op (value x) (value y))))) c.values.ensures c.values-2.ensures)
