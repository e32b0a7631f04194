use Rattle.std.proofs.Common.{◌∙◌, ap}
use Rattle.num_traits.specs.Laws.{bit_len}
use Rattle.arrow_arithmetic.specs.Arithmetic.{function_of}
use Rattle.dunkelva_c.proofs.Lent.{lent-rows}
use Rattle.dunkelva_c.proofs.signs.change_numbers.Goals as goal
use Rattle.polars_compute_arithmetic.specs.Operations.{answer_rows}

pub returns-clause-written : goal.returns-clause-written
returns-clause-written g c =
    let value = g.T.Number.value in
    record {
      present = c.in_ok-bits.bits;
      bits = c.write_present.ensures.bits;
      same =
          c.in_ok-bits.ensures.rows
          ∙ ap (answer_rows g.T.Bounded.low (bit_len g.T.FixedWidth.width) (function_of c.args.sign)) (lent-rows value c.args.part.now c.args.values.now c.in_ok-column.column c.in_ok-column.ensures.made);
      count = c.write_present.ensures.count;
    }
