use Rattle.std.proofs.Common.{◌∙◌, ap}
use Rattle.std.specs.Prelude.{ℤ, Option}
use Rattle.num_traits.specs.Laws.{bit_len}
use Rattle.polars_arrays_numbers.specs.Wrapping.{wrapped}
use Rattle.polars_compute_arithmetic.proofs.Units.{unit-truncated_division}
use Rattle.polars_compute_arithmetic.specs.Operations.{or_zero}
use Rattle.polars_compute_arithmetic.proofs.arithmetic.operations.TruncatedQuotientNumberDivision.by_unit.Goals as goal

pub returns : goal.returns
returns g c =
    c.wrapping_mul.ensures
    ∙ ap (λ (o : Option ℤ). wrapped g.T.Bounded.low (bit_len g.T.FixedWidth.width) (or_zero o)) (unit-truncated_division (g.T.Number.value c.args.rhs) c.requires.unit c.requires.some (g.T.Number.value c.args.x))
