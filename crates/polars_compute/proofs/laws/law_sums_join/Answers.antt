use Rattle.num_traits.specs.Laws.{bit_len}
use Rattle.polars_compute.proofs.SumsOfParts.{sums-join}
use Rattle.polars_compute.proofs.laws.law_sums_join.Goals as goal

pub returns : goal.returns
returns g c = sums-join g.T.Bounded.low (bit_len g.T.FixedWidth.width)
