use Rattle.std.proofs.Common.{◌∙◌, sym}
use Rattle.polars_arrays_flat.specs.ArrayRows.{number_rows}
use Rattle.polars_arrays_flat.specs.StoredRows.{number_slots}
use Rattle.polars_compute_reductions.proofs.FoldSteps.{length-rows, no_fold, some_fold, unequal_fold}
use Rattle.polars_compute_reductions.proofs.fold.reduce_rows.Goals as goal

pub returns-then-null_count-len : goal.returns-then-null_count-len
returns-then-null_count-len g c =
    no_fold g.O.Operator.joined (g.O.Operator.neutral c.args.operator.now) (number_rows g.T.Number.value c.args.array.now) c.null_count.result c.len.result (c.null_count.ensures.rows tt)
    (c.len.ensures ∙ sym (length-rows c.args.array.now.validity (number_slots g.T.Number.value c.args.array.now.values) c.validity-validity.ensures.bits)) c.if-null_count-len.true

pub returns-then-compare : goal.returns-then-compare
returns-then-compare g c =
    unequal_fold g.O.Operator.joined (g.O.Operator.neutral c.args.operator.now) (number_rows g.T.Number.value c.args.array.now) _ _ c.start.ensures c.fold_rows-total.ensures (sym c.compare.ensures ∙ c.if-compare.true)

pub returns : goal.returns
returns g c =
    some_fold g.O.Operator.joined (g.O.Operator.neutral c.args.operator.now) (number_rows g.T.Number.value c.args.array.now) c.null_count.result c.len.result (c.null_count.ensures.rows tt)
    (c.len.ensures ∙ sym (length-rows c.args.array.now.validity (number_slots g.T.Number.value c.args.array.now.values) c.validity-validity.ensures.bits)) _ c.if-null_count-len.false c.fold_rows-total.ensures
