use Rattle.std.proofs.Common.{◌∙◌, sym, pos}
use Rattle.polars_arrays_flat.specs.ArrayRows.{is_null, truth_rows}
use Rattle.polars_compute_slots.specs.State.{is_value}
use Rattle.polars_compute_slots.proofs.RowPlaces.{length-rows}
use Rattle.polars_arrays_flat.specs.StoredRows.{truth_slots}
use Rattle.polars_compute_unique.proofs.TruthCounts.{any-counted, some-false}
use Rattle.polars_compute_unique.proofs.boolean.held_by.Goals as goal

pub returns-clause-falses : goal.returns-clause-falses
returns-clause-falses c =
    some-false c.args.array.now.validity c.args.array.now.values c.len.result c.null_count-nulls.result c.true_rows-trues.result
    (length-rows c.args.array.now.validity (truth_slots c.args.array.now.values) c.validity-validity.ensures.bits ∙ sym c.len.ensures)
    (c.null_count-nulls.ensures.rows tt) c.true_rows-trues.ensures

pub returns-clause-trues : goal.returns-clause-trues
returns-clause-trues c = any-counted (is_value (pos 1)) (truth_rows c.args.array.now) c.true_rows-trues.result c.true_rows-trues.ensures

pub returns-clause-nulls : goal.returns-clause-nulls
returns-clause-nulls c = any-counted is_null (truth_rows c.args.array.now) c.null_count-nulls.result (c.null_count-nulls.ensures.rows tt)
