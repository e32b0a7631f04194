use Rattle.std.proofs.Common.{◌≡◌, ◌∙◌, ◌+◌, ℕ, ap, ap₂, sym, arith, length}
use Rattle.std.specs.Prelude.{nat_le}
use Rattle.std.proofs.lemmas.Simd.{length-zip2}
use Rattle.std.proofs.Common.{◌||◌}
use Rattle.polars_compute_slots.specs.Slots.{slot_state}
use Rattle.polars_compute_slots.specs.State.{merged, numbers_from, range_of}
use Rattle.polars_compute_slots.proofs.Ranges.{merged-slots}
use Rattle.polars_compute_slots.proofs.Sets.{range-slots, same-count}
use Rattle.polars_compute_unique.specs.Seen.{seen_slots}
use Rattle.polars_compute_unique.proofs.primitive.PrimitiveRangedUniqueStateRangedUniqueKernel.append_state.Goals as goal

pub join_seen-requires-clause-size : goal.join_seen-requires-clause-size
join_seen-requires-clause-size g c =
    let value = g.T.Number.value in
    let mine : numbers_from (value c.self.inside.span.least) c.self.inside.span.count ≡ range_of c.args.self.now = sym (range-slots (value c.self.inside.span.least) (seen_slots c.self.inside.seen) c.self.inside.span.count) ∙ ap range_of c.self.view_is in
    let others : numbers_from (value c.other.inside.span.least) c.other.inside.span.count ≡ range_of c.args.other.now = sym (range-slots (value c.other.inside.span.least) (seen_slots c.other.inside.seen) c.other.inside.span.count) ∙ ap range_of c.other.view_is in
    let counts : c.self.inside.span.count ≡ c.other.inside.span.count = same-count (value c.self.inside.span.least) (value c.other.inside.span.least) c.self.inside.span.count c.other.inside.span.count (mine ∙ c.requires ∙ sym others) in
    omega (arith, counts, c.self.invariant.size, c.other.invariant.size)

pub join_seen-requires-clause-word : goal.join_seen-requires-clause-word
join_seen-requires-clause-word g c =
    let value = g.T.Number.value in
    let mine : numbers_from (value c.self.inside.span.least) c.self.inside.span.count ≡ range_of c.args.self.now = sym (range-slots (value c.self.inside.span.least) (seen_slots c.self.inside.seen) c.self.inside.span.count) ∙ ap range_of c.self.view_is in
    let others : numbers_from (value c.other.inside.span.least) c.other.inside.span.count ≡ range_of c.args.other.now = sym (range-slots (value c.other.inside.span.least) (seen_slots c.other.inside.seen) c.other.inside.span.count) ∙ ap range_of c.other.view_is in
    let counts : c.self.inside.span.count ≡ c.other.inside.span.count = same-count (value c.self.inside.span.least) (value c.other.inside.span.least) c.self.inside.span.count c.other.inside.span.count (mine ∙ c.requires ∙ sym others) in
    c.other.invariant.word ∙ ap (λ (n : ℕ). nat_le (n + 1) 128) (sym counts) ∙ sym c.self.invariant.word

pub invariant_of-self : goal.invariant_of-self
invariant_of-self g c =
    let value = g.T.Number.value in
    let mine : numbers_from (value c.self.inside.span.least) c.self.inside.span.count ≡ range_of c.args.self.now = sym (range-slots (value c.self.inside.span.least) (seen_slots c.self.inside.seen) c.self.inside.span.count) ∙ ap range_of c.self.view_is in
    let others : numbers_from (value c.other.inside.span.least) c.other.inside.span.count ≡ range_of c.args.other.now = sym (range-slots (value c.other.inside.span.least) (seen_slots c.other.inside.seen) c.other.inside.span.count) ∙ ap range_of c.other.view_is in
    let counts : c.self.inside.span.count ≡ c.other.inside.span.count = same-count (value c.self.inside.span.least) (value c.other.inside.span.least) c.self.inside.span.count c.other.inside.span.count (mine ∙ c.requires ∙ sym others) in
    record {
      numbers = c.self.invariant.numbers;
      size = ap length c.join_seen.ensures.slots ∙ length-zip2 ◌||◌ (seen_slots c.self.inside.seen) (seen_slots c.other.inside.seen) (omega (arith, counts, c.self.invariant.size, c.other.invariant.size)) ∙ c.self.invariant.size;
      word = c.join_seen.ensures.word ∙ c.self.invariant.word;
    }

pub returns-clause-state : goal.returns-clause-state
returns-clause-state g c =
    let value = g.T.Number.value in
    let mine : numbers_from (value c.self.inside.span.least) c.self.inside.span.count ≡ range_of c.args.self.now = sym (range-slots (value c.self.inside.span.least) (seen_slots c.self.inside.seen) c.self.inside.span.count) ∙ ap range_of c.self.view_is in
    let others : numbers_from (value c.other.inside.span.least) c.other.inside.span.count ≡ range_of c.args.other.now = sym (range-slots (value c.other.inside.span.least) (seen_slots c.other.inside.seen) c.other.inside.span.count) ∙ ap range_of c.other.view_is in
    let counts : c.self.inside.span.count ≡ c.other.inside.span.count = same-count (value c.self.inside.span.least) (value c.other.inside.span.least) c.self.inside.span.count c.other.inside.span.count (mine ∙ c.requires ∙ sym others) in
    let least = value c.self.inside.span.least in
    let other = value c.other.inside.span.least in
    let count = c.self.inside.span.count in
    ap (slot_state least count) c.join_seen.ensures.slots
    ∙ merged-slots least other count (seen_slots c.self.inside.seen) (seen_slots c.other.inside.seen) c.self.invariant.size (omega (arith, counts, c.other.invariant.size))
    ∙ ap₂ merged c.self.view_is (ap (λ (n : ℕ). slot_state other n (seen_slots c.other.inside.seen)) counts ∙ c.other.view_is)
