use Rattle.std.proofs.Common.{◌≡◌, ◌∙◌, not, map, ap}
use Rattle.num_traits.specs.Laws.{bit_len}
use Rattle.arrow_columns.specs.Comparing.{under}
use Rattle.arrow_arithmetic.specs.Answers.{beside_of, is_answered}
use Rattle.arrow_arithmetic.specs.Arithmetic.{operation_of, placed}
use Rattle.arrow_arithmetic.specs.declared.present.Answered.{Answered}
use Rattle.polars_arrays_numbers.specs.Wrapping.{wrapped}
use Rattle.polars_compute_arithmetic.specs.Operations.{or_zero}
use Rattle.polars_compute_arithmetic.specs.Zeros.{is_nonzero}
use Rattle.arrow_arithmetic.proofs.Results.{beside-law, each-rows, is_nonzero-not}
use Rattle.arrow_arithmetic.proofs.calculating.calculate_number.Goals as goal

pub returns-clause-rows : goal.returns-clause-rows
returns-clause-rows g c =
    let value = g.T.Number.value in
    let low = g.T.Bounded.low in
    let width = bit_len g.T.FixedWidth.width in
    let n = value c.args.number in
    let f = placed c.args.side (operation_of c.args.arithmetic) n in
    let v = c.args.column.now.validity in
    let xs = c.args.column.now.values in
    let zero = c.is_zero.result in
    let told : not zero ≡ is_nonzero n = is_nonzero-not zero n (c.is_zero.ensures.value g.met.T.Integral.exact_law) in
    each-rows value low width f (λ x. is_answered (beside_of c.args.side zero c.args.arithmetic) (value x)) (λ x. beside-law c.args.side zero c.args.arithmetic n (value x) told) v xs c.write_beside.new.out c.in_ok-present.present
    (c.in_ok-present.ensures.bits ∙ ap (λ (answered : Answered). under v (map (λ x. is_answered answered (value x)) xs)) c.answered_beside-answered.ensures)
    (c.write_beside.ensures ∙ ap (map (λ x. wrapped low width (or_zero (f (value x))))) c.values.ensures)
