use Rattle.std.proofs.Common.{◌≡◌, ◌∙◌, ℕ, map, ap, arith, subst, sym, false}
use Rattle.std.proofs.lemmas.Option.{get_or_from_slice_get}
use Rattle.std.proofs.lemmas.Result.{IfOk-from_err}
use Rattle.polars_arrays_flat.specs.Row.{Int}
use Rattle.polars_arrays_flat.specs.StoredRows.{number_slots}
use Rattle.polars_compute_slots.proofs.Fullness.{count-le}
use Rattle.polars_compute_slots.proofs.Sets.{count-mono, listed-more, length-listed, members}
use Rattle.polars_compute_slots.proofs.listing.list_numbers.Goals as goal

pub push_if-requires-after_bounds : goal.push_if-requires-after_bounds
push_if-requires-after_bounds g c κs within =
    let slots = g.S.Slots.set_slots c.args.slots.now in
    let least = g.T.Number.value c.args.span.now.least in
    let size = length-listed least slots g.T.Number.value c.loop-i.numbers.items c.loop-i.i (omega (arith, c.requires.size, c.loop-i-test.true)) c.loop-i.invariant.items in
    omega (arith, size, c.loop-i.invariant.room, c.count_values-room.ensures, count-mono slots c.loop-i.i c.args.span.now.count (omega (arith, c.loop-i-test.true)) (omega (arith, c.requires.size)))

pub loop-i-preserved : goal.loop-i-preserved
loop-i-preserved g c =
    let slots = g.S.Slots.set_slots c.args.slots.now in
    let least = g.T.Number.value c.args.span.now.least in
    record {
      items =
          ap (number_slots g.T.Number.value) c.push_if.ensures.items
          ∙ listed-more least slots g.T.Number.value c.loop-i.numbers.items c.loop-i.i c.number.result c.is_set.result (sym (get_or_from_slice_get slots c.loop-i.i c.is_set.result false c.is_set.ensures)) c.number.ensures c.loop-i.invariant.items;
      room = c.push_if.ensures.room ∙ c.loop-i.invariant.room;
    }

pub returns-clause-room : goal.returns-clause-room
returns-clause-room g c =
    let slots = g.S.Slots.set_slots c.args.slots.now in
    let least = g.T.Number.value c.args.span.now.least in
    let size = length-listed least slots g.T.Number.value c.loop-i.numbers.items c.loop-i.i (omega (arith, c.requires.size, c.loop-i-test.false)) c.loop-i.invariant.items in
    omega (arith, size, c.loop-i.invariant.room, c.count_values-room.ensures, count-mono slots c.loop-i.i c.args.span.now.count (omega (arith, c.loop-i.auto.i-end)) (omega (arith, c.requires.size)))

pub overflow_add-room : goal.overflow_add-room
overflow_add-room g c =
    let most = count-le (g.S.Slots.set_slots c.args.slots.now) c.args.span.now.count (omega (arith, c.requires.size)) in
    omega (arith, c.count_values-room.ensures, c.requires.numbers.few)

pub returns-in_err-numbers-clause-numbers : goal.returns-in_err-numbers-clause-numbers
returns-in_err-numbers-clause-numbers g c = IfOk-from_err c.from_residual.result _ c.from_residual.ensures.0

pub returns-in_err-numbers-clause-room : goal.returns-in_err-numbers-clause-room
returns-in_err-numbers-clause-room g c = IfOk-from_err c.from_residual.result _ c.from_residual.ensures.0

pub loop-i-init : goal.loop-i-init
loop-i-init g c = record {
  items = ap (number_slots g.T.Number.value) c.in_ok-numbers.ensures.items;
  room = c.in_ok-numbers.ensures.exact;
}

pub is_set-requires : goal.is_set-requires
is_set-requires g c = omega (arith, c.requires.size, c.loop-i-test.true)

pub number-requires : goal.number-requires
number-requires g c = (c.type_bounds.static-T, (c.requires.numbers, c.loop-i-test.true))

pub returns-clause-numbers : goal.returns-clause-numbers
returns-clause-numbers g c =
    let done : c.loop-i.i ≡ c.args.span.now.count = omega (arith, c.loop-i.auto.i-end, c.loop-i-test.false) in
    subst (λ (k : ℕ). number_slots g.T.Number.value c.loop-i.numbers.items ≡ map Int (members (g.T.Number.value c.args.span.now.least) (g.S.Slots.set_slots c.args.slots.now) k)) done c.loop-i.invariant.items
