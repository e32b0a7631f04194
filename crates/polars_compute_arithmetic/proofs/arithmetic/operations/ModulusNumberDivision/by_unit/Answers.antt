use Rattle.std.proofs.Common.{◌∙◌, ap}
use Rattle.num_traits.specs.Laws.{bit_len}
use Rattle.polars_compute_arithmetic.proofs.Rounding.{within-is}
use Rattle.polars_compute_arithmetic.proofs.Units.{unit-modulo}
use Rattle.polars_compute_arithmetic.proofs.arithmetic.operations.ModulusNumberDivision.by_unit.Goals as goal

pub returns : goal.returns
returns g c =
    within-is g.T.Bounded.low g.T.Bounded.high (bit_len g.T.FixedWidth.width) g.met.T.WrappingNumber.range_law _ _ c.law_ends.ensures.least c.law_ends.ensures.greatest
    (ap g.T.Number.value c.zero-nothing.ensures ∙ g.met.T.Zero.zero_law g.met.T.Integral.exact_law ∙ unit-modulo (g.T.Number.value c.args.rhs) c.requires.unit c.requires.some (g.T.Number.value c.args.x))
