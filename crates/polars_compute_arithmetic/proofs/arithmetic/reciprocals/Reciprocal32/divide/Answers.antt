use Rattle.std.proofs.Common.{sym, arith}
use Rattle.polars_compute_arithmetic.proofs.Quotient.{quotient_carried}
use Rattle.polars_compute_arithmetic.proofs.arithmetic.reciprocals.Reciprocal32.divide.Goals as goal

pub returns : goal.returns
returns c =
    quotient_carried c.args.a c.self.inside.divisor c.self.inside.shift c.self.inside.factor 4294967296 c.args.self.now (omega arith) (omega arith) c.self.invariant.0 c.self.invariant.3 c.self.invariant.4 (sym c.self.view_is)
