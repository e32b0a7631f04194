use Rattle.std.proofs.Common.{◌∙◌, ◌&&◌, List, Bool, ap, count_by, pos}
use Rattle.std.specs.Prelude.{Option}
use Rattle.std.specs.Simd.Lanes.{zip2}
use Rattle.polars_arrays_flat.specs.StoredRows.{rows_under, truth_slots}
use Rattle.polars_compute_slots.specs.State.{is_value}
use Rattle.polars_compute_unique.proofs.TruthCounts.{count-masked}
use Rattle.polars_compute_unique.proofs.boolean.true_rows.Goals as goal

pub returns-in-Some : goal.returns-in-Some
returns-in-Some c =
    c.num_intersections_with.ensures
    ∙ ap (λ (values : List Bool). count_by (λ b. b) (zip2 ◌&&◌ values c.in-Some.validity.now)) c.values.ensures
    ∙ count-masked c.in-Some.validity.now c.args.array.now.values
    ∙ ap (λ (validity : Option (List Bool)). count_by (is_value (pos 1)) (rows_under validity (truth_slots c.args.array.now.values))) c.in-Some.ensures.validity
