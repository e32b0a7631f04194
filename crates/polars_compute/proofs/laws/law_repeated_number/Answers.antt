use Rattle.num_traits.specs.Laws.{bit_len}
use Rattle.polars_compute.proofs.ArithmeticRows.{number-on_left, number-on_right}
use Rattle.polars_compute.proofs.laws.law_repeated_number.Goals as goal

pub returns : goal.returns
returns g c = record {
  right = number-on_right g.T.Bounded.low (bit_len g.T.FixedWidth.width);
  left = number-on_left g.T.Bounded.low (bit_len g.T.FixedWidth.width);
}
