use Rattle.std.proofs.Common.{◌∙◌, sym}
use Rattle.std.specs.Prelude.{None}
use Rattle.polars_compare_leaves.specs.Order.{row_less, row_greater}
use Rattle.polars_compare_extremes.specs.PreferenceLaws.{greater_prefers-numbers, less_prefers-numbers}
use Rattle.polars_compare_extremes.proofs.NumberRows.{found-from, from-start, no_numbers}
use Rattle.polars_compare_extremes.proofs.numbers.ends_of_all.Goals as goal

pub returns-then-is_empty : goal.returns-then-is_empty
returns-then-is_empty g c = no_numbers g.T.Number.value c.args.numbers.now (sym c.is_empty.ensures ∙ c.if-is_empty.true)

pub returns : goal.returns
returns g c =
    let first = from-start g.T.Number.value c.args.numbers.now (sym c.is_empty.ensures ∙ c.if-is_empty.false) in (
      found-from g.T.Number.value c.args.numbers.now None tt row_less less_prefers-numbers 0 c.index-numbers-0.result _ first c.index-numbers-0.is c.fold_all_both-ends.ensures.first,
      found-from g.T.Number.value c.args.numbers.now None tt row_greater greater_prefers-numbers 0 c.index-numbers-0.result _ first c.index-numbers-0.is c.fold_all_both-ends.ensures.second,
    )
