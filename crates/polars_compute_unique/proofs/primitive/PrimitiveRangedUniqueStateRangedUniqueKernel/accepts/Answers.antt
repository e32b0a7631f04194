use Rattle.std.proofs.Common.{◌∙◌, List, ap, sym}
use Rattle.std.specs.Prelude.{ℤ}
use Rattle.polars_arrays_flat.specs.ArrayRows.{number_rows}
use Rattle.polars_compute_slots.specs.State.{are_within, range_of}
use Rattle.polars_compute_slots.proofs.Sets.{range-slots}
use Rattle.polars_compute_unique.specs.Seen.{seen_slots}
use Rattle.polars_compute_unique.proofs.primitive.PrimitiveRangedUniqueStateRangedUniqueKernel.accepts.Goals as goal

pub returns : goal.returns
returns g c =
    let value = g.T.Number.value in
    c.accepts_rows.ensures
    ∙ ap (λ (r : List ℤ). are_within r (number_rows value c.args.array.now)) (sym (range-slots (value c.self.inside.span.least) (seen_slots c.self.inside.seen) c.self.inside.span.count) ∙ ap range_of c.self.view_is)
