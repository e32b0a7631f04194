use Rattle.std.proofs.lemmas.Result.{MatchResult-weaker}
use Rattle.polars_arrays_views.specs.Parts.{view_strings}
use Rattle.polars_compare_equality.proofs.Pairs.{unequal-pairs}
use Rattle.polars_compare_equality.proofs.views.BinaryViewArrayTotalEqKernel.tot_ne_kernel.Goals as goal

pub returns : goal.returns
returns c =
    MatchResult-weaker c.compare_view_windows.result c.compare_view_windows.ensures.told
    (λ bits pairs. unequal-pairs _ _ (view_strings c.args.self.now) (view_strings c.args.other.now) c.count.result bits c.count.ensures c.requires.comparable pairs)
    (λ error m. m)
