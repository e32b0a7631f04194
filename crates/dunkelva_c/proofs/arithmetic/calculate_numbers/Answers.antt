use Rattle.std.proofs.Common.{◌∙◌, ap₂}
use Rattle.num_traits.specs.Laws.{bit_len}
use Rattle.arrow_arithmetic.specs.Arithmetic.{operation_of}
use Rattle.dunkelva_c.proofs.Lent.{lent-rows}
use Rattle.dunkelva_c.proofs.arithmetic.calculate_numbers.Goals as goal
use Rattle.polars_compute_arithmetic.specs.Operations.{result_rows}

pub returns-clause-written : goal.returns-clause-written
returns-clause-written g c =
    let value = g.T.Number.value in
    record {
      present = c.in_ok-bits.bits;
      bits = c.write_present.ensures.bits;
      same =
          c.in_ok-bits.ensures.rows
          ∙ ap₂ (result_rows g.T.Bounded.low (bit_len g.T.FixedWidth.width) (operation_of c.args.arithmetic))
          (lent-rows value c.args.left.now c.args.xs.now c.in_ok-lefts.lefts c.in_ok-lefts.ensures.made)
          (lent-rows value c.args.right.now c.args.ys.now c.in_ok-rights.rights c.in_ok-rights.ensures.made);
      count = c.write_present.ensures.count;
    }
