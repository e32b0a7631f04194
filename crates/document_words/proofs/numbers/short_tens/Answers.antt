use Rattle.std.proofs.Common.{◌≡◌, ℕ, ◌+◌, ◌<◌, ◌≤◌, List, length, ap, sym, ◌∙◌, subst}
use Rattle.std.proofs.lemmas.Bool.{eqb-true}
use Rattle.fast_float.specs.Text.{Parts, tens_down, tens_up}
use Rattle.document_words.proofs.ShortLemmas.{empty-long, fraction-long, tens-long, tens-short, wide-long, some-length}
use Rattle.document_words.proofs.numbers.short_tens.Goals as goal

pub returns-in_default : goal.returns-in_default
returns-in_default c = wide-long c.args.numeral.now c.in_default.ensures.tens

pub returns-then-is_empty : goal.returns-then-is_empty
returns-then-is_empty c =
    empty-long c.args.numeral.now (ap length (sym c.whole.ensures.value) ∙ eqb-true _ 0 (sym c.if-is_empty.ensures))

pub returns-then-not-is_empty : goal.returns-then-not-is_empty
returns-then-not-is_empty c =
    fraction-long c.args.numeral.now (subst (λ (l : List ℕ). 0 < length l) c.fraction.ensures.value (some-length (length c.fraction.result.now) c.if-not-is_empty.ensures))

pub returns-then-tens-gt-MOST_TENS : goal.returns-then-tens-gt-MOST_TENS
returns-then-tens-gt-MOST_TENS c =
    let sum : c.in-Some.tens.up + c.in-Some.tens.down ≡ tens_up c.args.numeral.now + tens_down c.args.numeral.now = (λ i. c.in-Some.ensures.tens.0 i + c.in-Some.ensures.tens.1 i) in
    tens-long c.args.numeral.now (subst (λ (n : ℕ). 20 < n) sum c.if-tens-gt-MOST_TENS.true)

pub returns : goal.returns
returns c =
    let p : Parts = c.args.numeral.now in
    let sum : c.in-Some.tens.up + c.in-Some.tens.down ≡ tens_up p + tens_down p = (λ i. c.in-Some.ensures.tens.0 i + c.in-Some.ensures.tens.1 i) in
    let some : 0 < length p.whole = subst (λ (l : List ℕ). 0 < length l) c.whole.ensures.value (some-length (length c.whole.result.now) c.if-is_empty.ensures) in
    let none : length p.fraction ≡ 0 = ap length (sym c.fraction.ensures.value) ∙ eqb-true _ 0 (sym c.if-not-is_empty.ensures) in
    (tens-short p some none (subst (λ (n : ℕ). n ≤ 20) sum c.if-tens-gt-MOST_TENS.false), c.in-Some.ensures.tens.0, c.in-Some.ensures.tens.1)
