use Rattle.std.proofs.Common.{◌≡◌, ◌∙◌, ℕ, pos, arith, sym, subst, false}
use Rattle.std.specs.Prelude.{ℤ, ◌+ℤ◌, ◌<ℤ◌, ◌≤ℤ◌, All}
use Rattle.std.specs.Int.{w128}
use Rattle.std.proofs.lemmas.Int.{by_lt_z, to_z-of_z}
use Rattle.std.proofs.lemmas.Option.{get_or_from_slice_get}
use Rattle.polars_compute_slots.specs.State.{IsLeastFrom}
use Rattle.polars_compute_slots.proofs.Sets.{all-more, least-found, members}
use Rattle.polars_compute_slots.proofs.listing.least_from.Goals as goal
use mir.Val.{of_z, to_z}

pub returns-then-is_from : goal.returns-then-is_from
returns-then-is_from g c =
    let slots = g.S.Slots.set_slots c.args.slots.now in
    let least = g.T.Number.value c.args.span.now.least in
    let bound : ℤ = to_z w128 (of_z w128 c.args.bound) in
    let told = c.is_from.ensures.0 c.if-is_from.true in
    subst (λ (z : ℤ). IsLeastFrom z (members least slots c.args.span.now.count) (g.T.Number.value c.number-number.result)) (to_z-of_z w128 c.args.bound c.ranges.bound)
    (least-found least slots bound c.loop-i.i c.args.span.now.count (g.T.Number.value c.number-number.result) c.loop-i-test.true (get_or_from_slice_get slots c.loop-i.i c.is_set.result false c.is_set.ensures ∙ told.0) c.number-number.ensures told.1 c.loop-i.invariant)

pub loop-i-preserved : goal.loop-i-preserved
loop-i-preserved g c =
    let slots = g.S.Slots.set_slots c.args.slots.now in
    let least = g.T.Number.value c.args.span.now.least in
    let bound : ℤ = to_z w128 (of_z w128 c.args.bound) in
    let bit = get_or_from_slice_get slots c.loop-i.i c.is_set.result false c.is_set.ensures in
    all-more least slots (λ v. v <ℤ bound) c.loop-i.i c.loop-i.invariant
    (λ set.
    by_lt_z (least +ℤ pos c.loop-i.i) bound (λ lt. lt)
    (λ from. let yes = c.is_from.ensures.1 (sym bit ∙ set, subst (λ (z : ℤ). bound ≤ℤ z) (sym c.number-number.ensures) from) in cc))

pub returns : goal.returns
returns g c =
    let slots = g.S.Slots.set_slots c.args.slots.now in
    let least = g.T.Number.value c.args.span.now.least in
    let done : c.loop-i.i ≡ c.args.span.now.count = omega (arith, c.loop-i.auto.i-end, c.loop-i-test.false) in
    subst (λ (z : ℤ). All (λ v. v <ℤ z) (members least slots c.args.span.now.count)) (to_z-of_z w128 c.args.bound c.ranges.bound)
    (subst (λ (k : ℕ). All (λ v. v <ℤ to_z w128 (of_z w128 c.args.bound)) (members least slots k)) done c.loop-i.invariant)
