use Rattle.std.proofs.Common.{◌∙◌, cond, ap}
use Rattle.std.specs.Prelude.{Some, None}
use Rattle.num_traits.specs.Laws.{bit_len}
use Rattle.polars_arrays_flat.specs.ArrayRows.{number_rows}
use Rattle.polars_compute_reductions.specs.Folds.{none_present}
use Rattle.polars_compute_reductions.specs.SumLaws.{folded-total}
use Rattle.arrow_columns.proofs.reducing.sum.Goals as goal

pub returns : goal.returns
returns g c =
    let rows = number_rows g.T.Number.value c.args.column.now in
    c.reduce.ensures
    ∙ ap (λ n. cond (none_present rows) None (Some n)) (folded-total g.T.Bounded.low (bit_len g.T.FixedWidth.width) rows)
