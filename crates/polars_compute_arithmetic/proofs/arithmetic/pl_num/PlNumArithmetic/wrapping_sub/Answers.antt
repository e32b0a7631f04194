use Rattle.std.proofs.Common.{◌∙◌}
use Rattle.polars_compute_arithmetic.proofs.arithmetic.pl_num.PlNumArithmetic.wrapping_sub.Goals as goal

pub returns : goal.returns
returns g c =
    g.met.Self.WrappingSub.wrapping_sub_law _ _ _ c.wrapping_sub.ensures ∙ g.met.Self.WrappingNumber.wrapped_law _
