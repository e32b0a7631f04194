use Rattle.std.proofs.Common.{rules}
use Rattle.polars_compute_arithmetic.proofs.arithmetic.ArithmeticKernel.legacy_div_scalar.Goals as goal

pub returns : goal.returns
returns c = search rules
