use Rattle.std.proofs.Common.{refl, sym, ap₂, ◌∙◌}
use Rattle.std.proofs.lemmas.List.FromFn.{length-map-range_with_len}
use Rattle.std.proofs.lemmas.Result.{MatchResult-weaker}
use Rattle.polars_arrays_flat.specs.Kind.{FixedSizeListKind}
use Rattle.polars_arrays_nested.specs.StoredRows.{stored_fixed_list}
use Rattle.polars_arrays_nested.specs.declared.any_array.AnyArray.{FixedSizeList}
use Rattle.polars_compare_equality.proofs.Listed.{apart, equal-bits, widths-equal}
use Rattle.polars_compare_equality.proofs.fixed_size_lists.FixedSizeListArrayTotalEqKernel.tot_eq_kernel.Goals as goal

pub returns-then-width : goal.returns-then-width
returns-then-width c =
    MatchResult-weaker c.new_zeroed.result c.new_zeroed.ensures
    (λ bits e. rw e (apart _ _ _ _ _ _ (λ e. c.if-width.true (c.width.ensures ∙ widths-equal _ _ _ _ e ∙ sym c.width-2.ensures)) (c.len-rows.ensures ∙ sym (length-map-range_with_len (stored_fixed_list c.args.self.now) 0 _))))
    (λ error m. m)

pub returns : goal.returns
returns c =
    let widths = sym c.width.ensures ∙ c.if-width.false ∙ c.width-2.ensures in
    MatchResult-weaker c.eq_fixed_size_lists.result c.eq_fixed_size_lists.ensures.told
    (λ bits raw. equal-bits (FixedSizeList c.args.self.now) (FixedSizeList c.args.other.now) (stored_fixed_list c.args.self.now) (stored_fixed_list c.args.other.now) _ _ _ bits (λ i low. refl) (λ i low. refl) c.len-rows.ensures c.requires.comparable.0 (ap₂ FixedSizeListKind c.requires.comparable.1 widths) raw)
    (λ error m. m)
