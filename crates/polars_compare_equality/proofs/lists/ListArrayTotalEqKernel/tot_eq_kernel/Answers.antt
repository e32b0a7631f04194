use Rattle.std.proofs.Common.{refl, ap, ◌∙◌}
use Rattle.std.proofs.lemmas.Result.{MatchResult-weaker}
use Rattle.polars_arrays_nested.specs.ListOffsets.{list_count}
use Rattle.polars_arrays_nested.specs.StoredRows.{stored_list}
use Rattle.polars_arrays_nested.specs.declared.any_array.AnyArray.{List}
use Rattle.polars_compare_equality.proofs.Listed.{equal-bits}
use Rattle.polars_compare_equality.proofs.lists.ListArrayTotalEqKernel.tot_eq_kernel.Goals as goal

pub returns : goal.returns
returns c =
    MatchResult-weaker c.eq_lists.result c.eq_lists.ensures.told
    (λ bits raw. equal-bits (List c.args.self.now) (List c.args.other.now) (stored_list c.args.self.now) (stored_list c.args.other.now) _ _ _ bits (λ i low. refl) (λ i low. refl) (c.len-rows.ensures ∙ ap list_count c.offsets.ensures) c.requires.comparable.0 c.requires.comparable.1 raw)
    (λ error m. m)
