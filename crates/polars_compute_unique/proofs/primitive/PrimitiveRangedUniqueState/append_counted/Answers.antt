use Rattle.std.proofs.Common.{◌≡◌, ◌∙◌, List, ap, sym}
use Rattle.std.specs.Prelude.{ℤ}
use Rattle.polars_arrays_flat.specs.ArrayRows.{number_rows}
use Rattle.polars_compute_slots.specs.State.{are_within, numbers_from, range_of}
use Rattle.polars_compute_slots.proofs.Ranges.{have-rows}
use Rattle.polars_compute_slots.proofs.Sets.{range-slots}
use Rattle.polars_compute_unique.specs.Seen.{seen_slots}
use Rattle.polars_compute_unique.proofs.primitive.PrimitiveRangedUniqueState.append_counted.Goals as goal

pub mark_rows-requires-clause-fit : goal.mark_rows-requires-clause-fit
mark_rows-requires-clause-fit g c κs within =
    let value = g.T.Number.value in
    let rows = number_rows value c.args.array.now in
    let least = value c.self.inside.span.least in
    let range : numbers_from least c.self.inside.span.count ≡ range_of c.args.self.now = sym (range-slots least (seen_slots c.self.inside.seen) c.self.inside.span.count) ∙ ap range_of c.self.view_is in
    have-rows value least c.self.inside.span.count c.args.array.now.validity c.args.array.now.values (ap (λ (r : List ℤ). are_within r rows) range ∙ c.requires)

pub mark_rows-requires-in-Many-clause-fit : goal.mark_rows-requires-in-Many-clause-fit
mark_rows-requires-in-Many-clause-fit g c κs within =
    let value = g.T.Number.value in
    let rows = number_rows value c.args.array.now in
    let least = value c.self.inside.span.least in
    let range : numbers_from least c.self.inside.span.count ≡ range_of c.args.self.now = sym (range-slots least (seen_slots c.self.inside.seen) c.self.inside.span.count) ∙ ap range_of c.self.view_is in
    have-rows value least c.self.inside.span.count c.args.array.now.validity c.args.array.now.values (ap (λ (r : List ℤ). are_within r rows) range ∙ c.requires)
