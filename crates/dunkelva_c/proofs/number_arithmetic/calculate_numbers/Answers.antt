use Rattle.std.proofs.Common.{◌≡◌, ◌∙◌, ap}
use Rattle.std.specs.Int.{w128}
use Rattle.std.specs.Prelude.{ℤ}
use Rattle.std.proofs.lemmas.Int.{to_z-of_z}
use Rattle.num_traits.specs.Laws.{bit_len}
use Rattle.arrow_arithmetic.specs.Arithmetic.{operation_of, placed}
use Rattle.dunkelva_c.proofs.Lent.{lent-rows}
use Rattle.dunkelva_c.proofs.number_arithmetic.calculate_numbers.Goals as goal
use Rattle.polars_arrays_flat.specs.ArrayRows.{number_rows}
use Rattle.polars_compute_arithmetic.specs.Operations.{answer_rows}

pub returns-clause-written : goal.returns-clause-written
returns-clause-written g c =
    let value = g.T.Number.value in
    let least = g.T.Bounded.low in
    let width = bit_len g.T.FixedWidth.width in
    let place = placed c.args.side (operation_of c.args.arithmetic) in
    let number : value c.in-Some.operand ≡ c.args.number = c.in-Some.ensures.number ∙ to_z-of_z w128 c.args.number c.ranges.number in
    record {
      present = c.in_ok-bits.bits;
      bits = c.write_present.ensures.bits;
      same =
          c.in_ok-bits.ensures.rows
          ∙ ap (λ (n : ℤ). answer_rows least width (place n) (number_rows value c.in_ok-column.column)) number
          ∙ ap (answer_rows least width (place c.args.number)) (lent-rows value c.args.part.now c.args.values.now c.in_ok-column.column c.in_ok-column.ensures.made);
      count = c.write_present.ensures.count;
    }
