use Rattle.std.proofs.Common.{◌∙◌, ap, subst, map}
use Rattle.std.specs.Ordering.{int_eq}
use Rattle.std.specs.Prelude.{Some, option_map}
use Rattle.polars_arrays_flat.specs.Row.{Int}
use Rattle.schema_values.specs.Distinct.{distinct_total}
use Rattle.schema_columns.specs.Ends.{TellsEnds}
use Rattle.schema_columns.proofs.EndLemmas.{ends_told}
use Rattle.schema_columns.proofs.column.whole_values.Goals as goal

pub returns : goal.returns
returns c =
    let told = ends_told _ c.min_max_ignore_nan_kernel-pair.result _ _ c.min_max_ignore_nan_kernel-pair.ensures c.in_ok-ends.ensures.0 c.in_ok-ends.ensures.1 in
    record {
      distinct = ap Some (c.in_ok-count_numbers.ensures ∙ ap (distinct_total int_eq) c.in_ok-wholes.ensures);
      ends = subst (λ numbers. TellsEnds (map Int numbers) (option_map (λ v. v.items) c.in_ok-ends.ends.least) (option_map (λ v. v.items) c.in_ok-ends.ends.greatest)) (c.as_slice-slice.ensures.value ∙ c.in_ok-wholes.ensures) told;
    }
