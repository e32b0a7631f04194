use Rattle.num_traits.specs.Laws.{bit_len}
use Rattle.polars_compute.proofs.ArithmeticRows.{divides-back}
use Rattle.polars_compute.proofs.laws.law_divides_back.Goals as goal

pub returns : goal.returns
returns g c =
    divides-back g.T.Bounded.low g.T.Bounded.high (bit_len g.T.FixedWidth.width) g.met.T.WrappingNumber.range_law
