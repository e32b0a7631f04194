use Rattle.std.proofs.Common.{◌∙◌, ap}
use Rattle.std.specs.Prelude.{ℤ}
use Rattle.std.specs.Option.{option_copied}
use Rattle.polars_arrays_flat.specs.StoredRows.{number_slots, rows_under}
use Rattle.polars_compute_reductions.specs.Folds.{folded}
use Rattle.polars_compare_extremes.specs.BestNumber.{best_of}
use Rattle.polars_compare_extremes.proofs.BestRows.{folded-alike}
use Rattle.polars_compare_extremes.proofs.NumberRows.{found-from, no_number}
use Rattle.polars_compare_extremes.proofs.numbers.best_number.Goals as goal

pub returns-in-Some : goal.returns-in-Some
returns-in-Some g c =
    let rows = rows_under (option_copied c.args.present) (number_slots g.T.Number.value c.args.numbers.now) in
    let n = g.T.Number.value c.index-numbers-first.result in
    found-from g.T.Number.value c.args.numbers.now (option_copied c.args.present) c.requires g.B.BestFrom.better g.B.BestFrom.preference_law c.in-Some.first
    c.index-numbers-first.result _ c.in-Some.ensures c.index-numbers-first.is
    (c.fold_under-best.ensures
    ∙ ap (λ (m : ℤ). folded g.B.Operator.joined m rows) c.from-operator.ensures
    ∙ folded-alike g.B.Operator.joined (best_of g.B.BestFrom.better) g.met.B.BestFrom.best_law n rows)

pub returns-in-None : goal.returns-in-None
returns-in-None g c =
    no_number g.T.Number.value c.args.numbers.now (option_copied c.args.present) c.requires c.in-None.ensures
