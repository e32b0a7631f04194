use Rattle.std.proofs.Common.{◌≡◌, ◌∙◌, true, false, length, refl, ap}
use Rattle.std.specs.Prelude.{pos}
use Rattle.std.proofs.lemmas.Result.{MatchResult-weaker}
use Rattle.arrow_arithmetic.proofs.PresentBits.{nonzero-bits, one-bit}
use Rattle.arrow_arithmetic.proofs.present.answered_bits.Goals as goal

pub returns-in-Each : goal.returns-in-Each
returns-in-Each g c =
    MatchResult-weaker c.new_with_value.result c.new_with_value.ensures
    (λ bits e. rw c.in-Each.is (e ∙ one-bit true (length c.args.values.now) c.args.values.now refl))
    (λ error m. m)

pub returns-in-Nonzero : goal.returns-in-Nonzero
returns-in-Nonzero g c =
    let zero : g.T.Number.value c.zero.result ≡ pos 0 = ap g.T.Number.value c.zero.ensures ∙ g.met.T.Zero.zero_law g.met.T.Integral.exact_law in
    MatchResult-weaker c.compare_constant.result c.compare_constant.ensures
    (λ bits e. rw c.in-Nonzero.is (e ∙ nonzero-bits g.T.Number.value c.zero.result zero c.args.values.now))
    (λ error m. m)

pub returns-in-Nothing : goal.returns-in-Nothing
returns-in-Nothing g c =
    MatchResult-weaker c.new_with_value-in-Nothing.result c.new_with_value-in-Nothing.ensures
    (λ bits e. rw c.in-Nothing.is (e ∙ one-bit false (length c.args.values.now) c.args.values.now refl))
    (λ error m. m)
