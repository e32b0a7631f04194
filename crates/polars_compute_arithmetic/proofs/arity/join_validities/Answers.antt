use Rattle.std.proofs.Common.{List, Bool, sym, ap}
use Rattle.std.specs.Prelude.{Option}
use Rattle.polars_compute_arithmetic.specs.Maps.{joined_validity}
use Rattle.polars_compute_arithmetic.proofs.arity.join_validities.Goals as goal

pub returns-in-None-default : goal.returns-in-None-default
returns-in-None-default c =
    sym (ap (λ (left : Option (List Bool)). joined_validity left c.args.right) c.in-None-default.is-0)
