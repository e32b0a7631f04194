use Rattle.std.proofs.Common.{refl}
use Rattle.std.proofs.lemmas.Result.{MatchResult-weaker}
use Rattle.polars_arrays_nested.specs.StoredRows.{stored_fixed_list}
use Rattle.polars_compare_equality.proofs.Listed.{equal-all}
use Rattle.polars_compare_equality.proofs.fixed_size_lists.FixedSizeListArrayTotalEqKernel.tot_eq_kernel_broadcast.Goals as goal

pub returns : goal.returns
returns c =
    MatchResult-weaker c.fixed_size_list_broadcast.result c.fixed_size_list_broadcast.ensures
    (λ bits same. (refl, equal-all _ (stored_fixed_list c.args.self.now) c.args.other.now _ bits same))
    (λ error m. m)
