use Rattle.std.proofs.Common.{refl}
use Rattle.std.specs.Prelude.{None}
use Rattle.std.proofs.lemmas.Result.{MatchResult-weaker}
use Rattle.polars_arrays_flat.specs.Row.{Int}
use Rattle.polars_compare_equality.proofs.Raw.{equal-constant}
use Rattle.polars_compare_equality.proofs.numbers.PrimitiveArrayTotalEqKernel.tot_eq_kernel_broadcast.Goals as goal

pub returns : goal.returns
returns g c =
    MatchResult-weaker c.compare_number.result c.compare_number.ensures
    (λ bits e. (refl, equal-constant c.args.self.now.validity None _ (Int (g.T.Number.value c.args.other.now)) bits e))
    (λ error m. m)
