use Rattle.std.proofs.Common.{◌≡◌, ◌+◌, ◌-◌, ◌*◌, ◌/◌, ◌^◌, ℕ, arith, sym, ◌∙◌, subst}
use Rattle.std.specs.Cmp.{nat_cmp_is}
use Rattle.json_tolerances.proofs.SumLemmas.{begins_even, even_below, stepped, stays_over, stays_under, last_balance, order_of}
use Rattle.json_tolerances.proofs.TermLemmas.{tens_le}
use Rattle.json_tolerances.proofs.sums.compare_with_sum.Goals as goal

pub loop-place-init : goal.loop-place-init
loop-place-init c =
    let top = c.max-place.result in
    let low = c.max.ensures in
    let high = c.max-place.ensures in
    let one = tens_le c.top.result top (omega arith) in
    let two = tens_le c.top-2.result top (omega arith) in
    let three = tens_le c.top-3.result top (omega arith) in
    record {
      balance = begins_even c.args.x.now c.args.y.now c.args.z.now top c.args.by_x c.args.by_y c.args.by_z (omega (arith, one, c.top.ensures.above)) (omega (arith, two, c.top-2.ensures.above)) (omega (arith, three, c.top-3.ensures.above));
      over = omega arith;
      under = omega arith;
    }

pub loop-place-preserved-then-next-place : goal.loop-place-preserved-then-next-place
loop-place-preserved-then-next-place c =
    let over = c.if-over-eq0.true in
    let under = c.if-under-eq0.true in
    let n = c.next_place-next in
    let even = (λ i. c.args.by_x * (c.args.x.now / 10 ^ c.loop-place.place) + sym under i) ∙ c.loop-place.invariant.balance ∙ (λ i. c.args.by_y * (c.args.y.now / 10 ^ c.loop-place.place) + c.args.by_z * (c.args.z.now / 10 ^ c.loop-place.place) + over i) in
    let below = even_below c.args.x.now c.args.y.now c.args.z.now c.loop-place.place n.result c.args.by_x c.args.by_y c.args.by_z n.ensures.first n.ensures.second n.ensures.third even in
    record {
      balance = (λ i. c.args.by_x * (c.args.x.now / 10 ^ n.result) + under i) ∙ below ∙ (λ i. c.args.by_y * (c.args.y.now / 10 ^ n.result) + c.args.by_z * (c.args.z.now / 10 ^ n.result) + sym over i);
      over = c.loop-place.invariant.over;
      under = c.loop-place.invariant.under;
    }

pub returns-then-over-by_y : goal.returns-then-over-by_y
returns-then-over-by_y c =
    let next = stepped c.args.x.now c.args.y.now c.args.z.now c.loop-place.place c.digit.result c.digit-else-over-eq0.result c.digit-else-over-eq0-2.result c.args.by_x c.args.by_y c.args.by_z c.loop-place.over c.loop-place.under
    c.saturating_sub-over.result c.saturating_sub-under.result c.loop-place-test.true c.digit.ensures c.digit-else-over-eq0.ensures c.digit-else-over-eq0-2.ensures c.saturating_sub-over.ensures c.saturating_sub-under.ensures c.loop-place.invariant.balance in
    let none : c.saturating_sub-under.result ≡ 0 = omega (arith, c.saturating_sub-over.ensures, c.saturating_sub-under.ensures, c.if-over-by_y.true) in
    nat_cmp_is _ _ _ (stays_over c.args.x.now c.args.y.now c.args.z.now (c.loop-place.place - 1) c.args.by_x c.args.by_y c.args.by_z c.saturating_sub-over.result c.saturating_sub-under.result next c.if-over-by_y.true none)

pub returns-then-under-by_x : goal.returns-then-under-by_x
returns-then-under-by_x c =
    let next = stepped c.args.x.now c.args.y.now c.args.z.now c.loop-place.place c.digit.result c.digit-else-over-eq0.result c.digit-else-over-eq0-2.result c.args.by_x c.args.by_y c.args.by_z c.loop-place.over c.loop-place.under
    c.saturating_sub-over.result c.saturating_sub-under.result c.loop-place-test.true c.digit.ensures c.digit-else-over-eq0.ensures c.digit-else-over-eq0-2.ensures c.saturating_sub-over.ensures c.saturating_sub-under.ensures c.loop-place.invariant.balance in
    let none : c.saturating_sub-over.result ≡ 0 = omega (arith, c.saturating_sub-over.ensures, c.saturating_sub-under.ensures, c.if-under-by_x.true) in
    nat_cmp_is _ _ _ (stays_under c.args.x.now c.args.y.now c.args.z.now (c.loop-place.place - 1) c.args.by_x c.args.by_y c.args.by_z c.saturating_sub-over.result c.saturating_sub-under.result next c.if-under-by_x.true none)

pub loop-place-preserved : goal.loop-place-preserved
loop-place-preserved c = record {
  balance = stepped c.args.x.now c.args.y.now c.args.z.now c.loop-place.place c.digit.result c.digit-else-over-eq0.result c.digit-else-over-eq0-2.result c.args.by_x c.args.by_y c.args.by_z c.loop-place.over c.loop-place.under
      c.saturating_sub-over.result c.saturating_sub-under.result c.loop-place-test.true c.digit.ensures c.digit-else-over-eq0.ensures c.digit-else-over-eq0-2.ensures c.saturating_sub-over.ensures c.saturating_sub-under.ensures c.loop-place.invariant.balance;
  over = c.if-over-by_y.false;
  under = c.if-under-by_x.false;
}

pub returns : goal.returns
returns c =
    let none : c.loop-place.place ≡ 0 = omega (arith, c.loop-place-test.false) in
    let last = subst (λ (p : ℕ). c.args.by_x * (c.args.x.now / 10 ^ p) + c.loop-place.under ≡ c.args.by_y * (c.args.y.now / 10 ^ p) + c.args.by_z * (c.args.z.now / 10 ^ p) + c.loop-place.over) none c.loop-place.invariant.balance in
    order_of _ _ c.loop-place.over c.loop-place.under c.cmp.result (last_balance c.args.x.now c.args.y.now c.args.z.now c.args.by_x c.args.by_y c.args.by_z c.loop-place.over c.loop-place.under last) c.cmp.ensures
