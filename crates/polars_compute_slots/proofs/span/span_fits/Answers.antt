use Rattle.polars_compute_slots.proofs.Casts.{difference-is, fits-miss, fits-test}
use Rattle.polars_compute_slots.proofs.span.span_fits.Goals as goal

pub returns-in-Ok : goal.returns-in-Ok
returns-in-Ok g c =
    let is = difference-is c.whole.result c.whole-2.result (g.T.Number.value c.args.greatest) (g.T.Number.value c.args.least) c.whole.ensures.narrow c.whole-2.ensures.narrow c.whole.ensures.number c.whole-2.ensures.number in
    fits-test (g.T.Number.value c.args.greatest) (g.T.Number.value c.args.least) c.in-Ok.distance _ is c.in-Ok.ensures.0.0 c.in-Ok.ensures.1

pub returns-in-Err : goal.returns-in-Err
returns-in-Err g c =
    let is = difference-is c.whole.result c.whole-2.result (g.T.Number.value c.args.greatest) (g.T.Number.value c.args.least) c.whole.ensures.narrow c.whole-2.ensures.narrow c.whole.ensures.number c.whole-2.ensures.number in
    (λ no. cc, λ h. absurd (fits-miss (g.T.Number.value c.args.greatest) (g.T.Number.value c.args.least) _ is c.in-Err.ensures h))
