use Rattle.std.proofs.Common.{refl, length}
use Rattle.std.proofs.lemmas.Result.{MatchResult-weaker}
use Rattle.polars_arrays_views.specs.Parts.{view_strings}
use Rattle.polars_compare_equality.proofs.Pairs.{equal-pairs}
use Rattle.polars_compare_equality.proofs.views.Utf8ViewArrayTotalEqKernel.tot_eq_kernel.Goals as goal

pub returns : goal.returns
returns c =
    MatchResult-weaker c.tot_eq_kernel_followed.result c.tot_eq_kernel_followed.ensures.told
    (λ bits pairs. equal-pairs _ _ (view_strings c.args.self.now) (view_strings c.args.other.now) (length (view_strings c.args.self.now)) bits refl c.requires.comparable pairs)
    (λ error m. m)
