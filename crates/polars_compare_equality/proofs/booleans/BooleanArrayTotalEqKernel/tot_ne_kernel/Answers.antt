use Rattle.std.proofs.lemmas.Result.{MatchResult-weaker}
use Rattle.polars_compare_equality.specs.SlotsLaws.{truth_slots-as_long}
use Rattle.polars_compare_equality.proofs.Raw.{unequal-windows}
use Rattle.polars_compare_equality.proofs.booleans.BooleanArrayTotalEqKernel.tot_ne_kernel.Goals as goal

pub returns : goal.returns
returns c =
    MatchResult-weaker c.compare_truth_windows.result c.compare_truth_windows.ensures
    (λ bits e. unequal-windows _ _ _ _ _ bits c.len.ensures (truth_slots-as_long _ _ c.requires.comparable) e)
    (λ error m. m)
