use Rattle.std.proofs.Common.{ap, ◌∙◌}
use Rattle.std.proofs.lemmas.Result.{MatchResult-weaker}
use Rattle.polars_arrays_nested.specs.DictKeys.{key_count}
use Rattle.polars_arrays_nested.specs.MaskLaws.{dictionary-row}
use Rattle.polars_arrays_nested.specs.StoredRows.{stored_entry}
use Rattle.polars_arrays_nested.specs.declared.any_array.AnyArray.{Dictionary}
use Rattle.polars_compare_equality.proofs.Listed.{equal-bits}
use Rattle.polars_compare_equality.proofs.dictionaries.DictionaryArrayTotalEqKernel.tot_eq_kernel.Goals as goal

pub returns : goal.returns
returns c =
    MatchResult-weaker c.eq_dictionaries.result c.eq_dictionaries.ensures.told
    (λ bits raw. equal-bits (Dictionary c.args.self.now) (Dictionary c.args.other.now) (stored_entry c.args.self.now) (stored_entry c.args.other.now) _ _ _ bits (λ i low. dictionary-row c.args.self.now i c.requires.good low) (λ i low. dictionary-row c.args.other.now i c.requires.good_other low) (c.len-rows.ensures ∙ ap key_count c.keys.ensures) c.requires.comparable.0 c.requires.comparable.1 raw)
    (λ error m. m)
