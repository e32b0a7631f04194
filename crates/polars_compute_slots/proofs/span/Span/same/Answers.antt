use Rattle.std.proofs.Common.{◌≡◌, ◌∙◌, arith, sym, eqb, true}
use Rattle.std.proofs.lemmas.Bool.Decides.{Decides-int_eq, nat_tests}
use Rattle.polars_compute_slots.proofs.Sets.{ranges-same, same-count, same-numbers}
use Rattle.polars_compute_slots.proofs.span.Span.same.Goals as goal

pub returns-else-self-eq0 : goal.returns-else-self-eq0
returns-else-self-eq0 g c = (
  λ yes. ranges-same (g.T.Number.value c.args.self.now.least) (g.T.Number.value c.args.other.now.least) c.args.self.now.count c.args.other.now.count c.if-self-other.true ((Decides-int_eq (g.T.Number.value c.args.self.now.least) (g.T.Number.value c.args.other.now.least)).0 (sym c.compare.ensures ∙ yes)),
  λ same. c.compare.ensures ∙ (Decides-int_eq (g.T.Number.value c.args.self.now.least) (g.T.Number.value c.args.other.now.least)).1 (same-numbers (g.T.Number.value c.args.self.now.least) (g.T.Number.value c.args.other.now.least) c.args.self.now.count c.args.other.now.count c.if-self-other.true (λ e. c.if-self-eq0.false (c.if-self-other.true ∙ e)) same),
)

equal : (m n : _) → eqb m n ≡ true → m ≡ n
equal m n e = grind (arith, nat_tests)

pub returns-else-self-other : goal.returns-else-self-other
returns-else-self-other g c = (
  λ yes. absurd (c.if-self-other.false (equal c.args.self.now.count c.args.other.now.count yes)),
  λ same. absurd (c.if-self-other.false (same-count (g.T.Number.value c.args.self.now.least) (g.T.Number.value c.args.other.now.least) c.args.self.now.count c.args.other.now.count same)),
)
