use Rattle.std.proofs.Common.{◌∙◌, map, ap}
use Rattle.num_traits.specs.Laws.{bit_len}
use Rattle.arrow_arithmetic.specs.Answers.{is_answered}
use Rattle.arrow_arithmetic.specs.Arithmetic.{function_of}
use Rattle.arrow_arithmetic.specs.declared.present.Answered.TheVariants as answered
use Rattle.polars_arrays_numbers.specs.Wrapping.{wrapped}
use Rattle.polars_compute_arithmetic.specs.Operations.{or_zero}
use Rattle.arrow_arithmetic.proofs.Results.{each-rows, signs-law}
use Rattle.arrow_arithmetic.proofs.calculating.change_sign.Goals as goal

pub returns-clause-rows : goal.returns-clause-rows
returns-clause-rows g c =
    let value = g.T.Number.value in
    let low = g.T.Bounded.low in
    let width = bit_len g.T.FixedWidth.width in
    let f = function_of c.args.sign in
    let xs = c.args.column.now.values in
    each-rows value low width f (λ x. is_answered answered.Each (value x)) (λ x. signs-law c.args.sign (value x)) c.args.column.now.validity xs c.write_signs.new.out c.in_ok-present.present
    c.in_ok-present.ensures.bits
    (c.write_signs.ensures ∙ ap (map (λ x. wrapped low width (or_zero (f (value x))))) c.values.ensures)
