use Rattle.std.proofs.Common.{◌≡◌, ◌∙◌, ap, sym}
use Rattle.polars_compute_slots.specs.State.{numbers_from, range_of}
use Rattle.polars_compute_slots.proofs.Sets.{range-slots}
use Rattle.polars_compute_unique.specs.Seen.{seen_slots}
use Rattle.polars_compute_unique.proofs.primitive.PrimitiveRangedUniqueStateRangedUniqueKernel.same_range.Goals as goal

pub returns : goal.returns
returns g c =
    let value = g.T.Number.value in
    let mine : numbers_from (value c.self.inside.span.least) c.self.inside.span.count ≡ range_of c.args.self.now = sym (range-slots (value c.self.inside.span.least) (seen_slots c.self.inside.seen) c.self.inside.span.count) ∙ ap range_of c.self.view_is in
    let others : numbers_from (value c.other.inside.span.least) c.other.inside.span.count ≡ range_of c.args.other.now = sym (range-slots (value c.other.inside.span.least) (seen_slots c.other.inside.seen) c.other.inside.span.count) ∙ ap range_of c.other.view_is in
    (λ yes. sym mine ∙ c.same.ensures.0 yes ∙ others, λ same. c.same.ensures.1 (mine ∙ same ∙ sym others))
