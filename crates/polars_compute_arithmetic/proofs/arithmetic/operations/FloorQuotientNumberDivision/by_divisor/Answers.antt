use Rattle.std.proofs.Common.{◌∙◌, sym, ap}
use Rattle.num_traits.specs.Laws.{bit_len}
use Rattle.polars_compute_arithmetic.proofs.Rounding.{unless_zero-is, within-is}
use Rattle.polars_compute_arithmetic.specs.Operations.{or_zero}
use Rattle.polars_compute_arithmetic.specs.Quotients.{floor_quotient}
use Rattle.polars_compute_arithmetic.proofs.arithmetic.operations.FloorQuotientNumberDivision.by_divisor.Goals as goal

pub returns : goal.returns
returns g c =
    within-is g.T.Bounded.low g.T.Bounded.high (bit_len g.T.FixedWidth.width) g.met.T.WrappingNumber.range_law _ _ c.law_ends.ensures.least c.law_ends.ensures.greatest
    (c.floor_by-quotient.ensures ∙ ap (floor_quotient (g.T.Number.value c.args.x)) c.requires.same ∙ sym (ap or_zero (unless_zero-is floor_quotient (g.T.Number.value c.args.x) (g.T.Number.value c.args.rhs) c.requires.some)))
