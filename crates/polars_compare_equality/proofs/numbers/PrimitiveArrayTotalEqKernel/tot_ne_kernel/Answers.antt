use Rattle.std.proofs.lemmas.Result.{MatchResult-weaker}
use Rattle.polars_compare_equality.specs.SlotsLaws.{number_slots-as_long}
use Rattle.polars_compare_equality.proofs.Raw.{unequal-windows}
use Rattle.polars_compare_equality.proofs.numbers.PrimitiveArrayTotalEqKernel.tot_ne_kernel.Goals as goal

pub returns : goal.returns
returns g c =
    MatchResult-weaker c.compare_number_windows.result c.compare_number_windows.ensures
    (λ bits e. unequal-windows _ _ _ _ _ bits c.len.ensures (number_slots-as_long g.T.Number.value _ _ c.requires.comparable) e)
    (λ error m. m)
