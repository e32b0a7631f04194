use Rattle.std.proofs.Common.{◌∙◌, sym, ap₂}
use Rattle.polars_arrays_flat.specs.ArrayRows.{number_rows}
use Rattle.polars_arrays_flat.specs.StoredRows.{number_slots, rows_under}
use Rattle.polars_compute_reductions.proofs.FoldSteps.{length-rows, length-slots, no_fold, some_fold}
use Rattle.polars_compute_reductions.specs.Folds.{folded}
use Rattle.arrow_columns.proofs.Compared.{slot-bits}
use Rattle.arrow_columns.proofs.reducing.reduce.Goals as goal

pub returns-then-null_count-len : goal.returns-then-null_count-len
returns-then-null_count-len g c =
    no_fold g.O.Operator.joined (g.O.Operator.neutral c.args.operator.now) (number_rows g.T.Number.value c.args.column.now) c.null_count.result c.len.result c.null_count.ensures
    (c.len.ensures ∙ sym (length-slots g.T.Number.value c.args.column.now.values) ∙ sym (length-rows c.args.column.now.validity (number_slots g.T.Number.value c.args.column.now.values) (slot-bits g.T.Number.value c.args.column.now.values c.args.column.now.validity c.validity-validity.ensures.bits))) c.if-null_count-len.true

pub returns : goal.returns
returns g c =
    some_fold g.O.Operator.joined (g.O.Operator.neutral c.args.operator.now) (number_rows g.T.Number.value c.args.column.now) c.null_count.result c.len.result c.null_count.ensures
    (c.len.ensures ∙ sym (length-slots g.T.Number.value c.args.column.now.values) ∙ sym (length-rows c.args.column.now.validity (number_slots g.T.Number.value c.args.column.now.values) (slot-bits g.T.Number.value c.args.column.now.values c.args.column.now.validity c.validity-validity.ensures.bits))) _ c.if-null_count-len.false
    (c.fold_under.ensures ∙ ap₂ (λ v xs. folded g.O.Operator.joined (g.O.Operator.neutral c.args.operator.now) (rows_under v (number_slots g.T.Number.value xs))) c.validity-validity.ensures.validity c.values.ensures)
