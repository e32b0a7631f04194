use Rattle.std.proofs.Common.{◌∙◌, ap}
use Rattle.std.specs.Option.{option_copied}
use Rattle.std.specs.Prelude.{ℤ}
use Rattle.polars_arrays_flat.specs.StoredRows.{number_slots, rows_under}
use Rattle.polars_compute_reductions.specs.Folds.{folded}
use Rattle.polars_compare_extremes.specs.BestNumber.{best_of}
use Rattle.arrow_extremes.proofs.BestRows.{folded-alike, found-in, none-in}
use Rattle.arrow_extremes.proofs.extremes.best.Goals as goal

pub returns-in-Some : goal.returns-in-Some
returns-in-Some g c =
    let value = g.T.Number.value in
    let mask = option_copied c.validity-validity.result in
    let rows = rows_under mask (number_slots value c.values-values.result.now) in
    found-in value c.values-values.result.now c.args.column.now.values mask c.args.column.now.validity c.validity-validity.ensures.bits c.values-values.ensures c.validity-validity.ensures.validity
    g.B.BestFrom.better g.B.BestFrom.preference_law c.in-Some.place c.index-values-place.result (value c.fold_under-found.result) c.in-Some.ensures c.index-values-place.is
    (c.fold_under-found.ensures
    ∙ ap (λ (m : ℤ). folded g.B.Operator.joined m rows) c.from-operator.ensures
    ∙ folded-alike g.B.Operator.joined (best_of g.B.BestFrom.better) g.met.B.BestFrom.best_law (value c.index-values-place.result) rows)

pub returns-in-None : goal.returns-in-None
returns-in-None g c =
    none-in g.T.Number.value c.values-values.result.now c.args.column.now.values (option_copied c.validity-validity.result) c.args.column.now.validity c.validity-validity.ensures.bits c.values-values.ensures c.validity-validity.ensures.validity c.in-None.ensures
