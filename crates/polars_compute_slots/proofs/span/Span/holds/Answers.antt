use Rattle.std.proofs.Common.{arith}
use Rattle.polars_compute_slots.proofs.Casts.{difference-is, range-miss, range-test}
use Rattle.polars_compute_slots.proofs.span.Span.holds.Goals as goal

pub returns-in-Ok : goal.returns-in-Ok
returns-in-Ok g c =
    let is = difference-is c.whole.result c.whole-2.result (g.T.Number.value c.args.number) (g.T.Number.value c.args.self.now.least) c.whole.ensures.narrow c.whole-2.ensures.narrow c.whole.ensures.number c.whole-2.ensures.number in
    range-test (g.T.Number.value c.args.number) (g.T.Number.value c.args.self.now.least) c.in-Ok.slot c.args.self.now.count _ is c.in-Ok.ensures.0.0 c.in-Ok.ensures.1

pub returns-in-Err : goal.returns-in-Err
returns-in-Err g c =
    let is = difference-is c.whole.result c.whole-2.result (g.T.Number.value c.args.number) (g.T.Number.value c.args.self.now.least) c.whole.ensures.narrow c.whole-2.ensures.narrow c.whole.ensures.number c.whole-2.ensures.number in
    (λ no. cc, λ h. absurd (range-miss (g.T.Number.value c.args.number) (g.T.Number.value c.args.self.now.least) c.args.self.now.count _ is (omega arith) c.in-Err.ensures h))
