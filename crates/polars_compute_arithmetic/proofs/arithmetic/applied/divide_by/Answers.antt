use Rattle.std.proofs.Common.{◌≡◌, ◌≢◌, ◌∙◌, ap, rules}
use Rattle.std.specs.Prelude.{pos}
use Rattle.std.proofs.lemmas.Result.{IfOk-weaker, MatchResult-weaker}
use Rattle.num_traits.specs.Laws.{bit_len}
use Rattle.polars_arrays_flat.specs.Numbers.{Numbers}
use Rattle.polars_compute_arithmetic.proofs.Owned.{owned-by_some, owned-by_zero}
use Rattle.polars_compute_arithmetic.proofs.Places.{answers, answers-none, has_answer}
use Rattle.polars_compute_arithmetic.proofs.Rounding.{unless_zero-is, unless_zero-none}
use Rattle.polars_compute_arithmetic.specs.Results.{Gives}
use Rattle.polars_compute_arithmetic.proofs.arithmetic.applied.divide_by.Goals as goal

pub returns-then-is_zero : goal.returns-then-is_zero
returns-then-is_zero g c =
    let zero : g.T.Number.value c.args.rhs ≡ pos 0 = (c.is_zero.ensures.value g.met.T.Integral.exact_law).0 c.if-is_zero.true in
    record {
      answers = MatchResult-weaker c.mask_all.result c.mask_all.ensures.masked
          (λ a e. answers-none g.T.Number.value g.T.Bounded.low (bit_len g.T.FixedWidth.width) (λ n. g.O.NumberOperation.meaning n (g.T.Number.value c.args.rhs))
          (λ n. g.met.O.NumberDivision.division_law n (g.T.Number.value c.args.rhs) ∙ unless_zero-none g.O.NumberDivision.divided n (g.T.Number.value c.args.rhs) zero) c.args.lhs a c.mask_all.ensures.bits e)
          (λ y m. m);
      owned = MatchResult-weaker c.mask_all.result c.mask_all.ensures.masked
          (λ a e. ap (λ (m : Numbers _). m.owned) e ∙ owned-by_zero c.args.lhs.owned (g.T.Number.value c.args.rhs) zero)
          (λ y m. tt);
    }

pub returns-in-Some : goal.returns-in-Some
returns-in-Some g c =
    let ne : g.T.Number.value c.args.rhs ≢ pos 0 = λ e. let t = (c.is_zero.ensures.value g.met.T.Integral.exact_law).1 e in let h = c.if-is_zero.false in cc in
    record {
      answers = MatchResult-weaker c.prim_unary_in_place.result c.prim_unary_in_place.ensures.mapped
          (λ a h. answers g.T.Number.value g.T.Bounded.low (bit_len g.T.FixedWidth.width) (λ n. g.O.NumberOperation.meaning n (g.T.Number.value c.args.rhs)) _
          (λ x z p. let e : Gives g.T.Number.value g.T.Bounded.low (bit_len g.T.FixedWidth.width) g.O.NumberOperation.meaning x c.args.rhs z = search rules in e) c.args.lhs a
          (λ n. ap has_answer (g.met.O.NumberDivision.division_law n (g.T.Number.value c.args.rhs) ∙ unless_zero-is g.O.NumberDivision.divided n (g.T.Number.value c.args.rhs) ne)) h)
          (λ y m. m);
      owned = IfOk-weaker c.prim_unary_in_place.result _ _ (λ a o. owned-by_some a.owned c.args.lhs.owned (g.T.Number.value c.args.rhs) ne o) c.prim_unary_in_place.ensures.owned;
    }

pub returns-in-None : goal.returns-in-None
returns-in-None g c =
    let ne : g.T.Number.value c.args.rhs ≢ pos 0 = λ e. let t = (c.is_zero.ensures.value g.met.T.Integral.exact_law).1 e in let h = c.if-is_zero.false in cc in
    record {
      answers = MatchResult-weaker c.prim_unary_in_place-in-None.result c.prim_unary_in_place-in-None.ensures.mapped
          (λ a h. answers g.T.Number.value g.T.Bounded.low (bit_len g.T.FixedWidth.width) (λ n. g.O.NumberOperation.meaning n (g.T.Number.value c.args.rhs)) _
          (λ x z p. let e : Gives g.T.Number.value g.T.Bounded.low (bit_len g.T.FixedWidth.width) g.O.NumberOperation.meaning x c.args.rhs z = search rules in e) c.args.lhs a
          (λ n. ap has_answer (g.met.O.NumberDivision.division_law n (g.T.Number.value c.args.rhs) ∙ unless_zero-is g.O.NumberDivision.divided n (g.T.Number.value c.args.rhs) ne)) h)
          (λ y m. m);
      owned = IfOk-weaker c.prim_unary_in_place-in-None.result _ _ (λ a o. owned-by_some a.owned c.args.lhs.owned (g.T.Number.value c.args.rhs) ne o) c.prim_unary_in_place-in-None.ensures.owned;
    }
