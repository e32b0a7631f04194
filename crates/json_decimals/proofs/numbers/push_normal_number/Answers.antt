use Rattle.std.proofs.Common.{◌≡◌, ℕ, List, ◌++◌, ◌+◌, ◌-◌, arith, ap, sym, ◌∙◌, subst, slice_range, length}
use Rattle.std.specs.Fmt.{sign_text}
use Rattle.fast_float.specs.Text.{tens_up, tens_down}
use Rattle.json_decimals.specs.Decimals.{is_negative, parts_of}
use Rattle.json_decimals.specs.Ranges.{IsStart, IsEnd}
use Rattle.json_decimals.specs.Texts.{tens_text}
use Rattle.json_decimals.proofs.NumberLemmas.{digits, text_of_zeros, text_of_kept, pieces}
use Rattle.json_decimals.proofs.numbers.push_normal_number.Goals as goal

pub returns-then-end-start-clause-ok : goal.returns-then-end-start-clause-ok
returns-then-end-start-clause-ok c =
    let text : List ℕ = c.args.text.now in
    let parts : c.numeral_of-numeral.result ≡ parts_of text = c.numeral_of-numeral.ensures ∙ ap parts_of c.as_bytes-bytes.ensures.value in
    let all : c.of-digits.result ≡ digits text = c.of-digits.ensures ∙ ap (λ p. p.whole ++ p.fraction) parts in
    let start = subst (λ (ds : List ℕ). IsStart ds c.start-start.result) all c.start-start.ensures in
    let end = subst (λ (ds : List ℕ). IsEnd ds c.end-end.result) all c.end-end.ensures in
    c.in_ok-push.ensures.items ∙ ap (λ x. c.args.out.now.items ++ x) (sym (text_of_zeros text c.start-start.result c.end-end.result start end c.if-end-start.true))

pub returns-clause-ok : goal.returns-clause-ok
returns-clause-ok c =
    let text : List ℕ = c.args.text.now in
    let bytes : c.as_bytes-bytes.result.now ≡ text = c.as_bytes-bytes.ensures.value in
    let parts : c.numeral_of-numeral.result ≡ parts_of text = c.numeral_of-numeral.ensures ∙ ap parts_of bytes in
    let all : c.of-digits.result ≡ digits text = c.of-digits.ensures ∙ ap (λ p. p.whole ++ p.fraction) parts in
    let start = subst (λ (ds : List ℕ). IsStart ds c.start-start.result) all c.start-start.ensures in
    let end = subst (λ (ds : List ℕ). IsEnd ds c.end-end.result) all c.end-end.ensures in
    let normal = text_of_kept text c.start-start.result c.end-end.result start end (omega arith) in
    let sign : c.is_negative.result ≡ is_negative text = c.is_negative.ensures ∙ ap is_negative bytes in
    let up : c.in-Some.tens.up ≡ tens_up (parts_of text) = c.in-Some.ensures.tens.0 ∙ ap tens_up parts in
    let down : c.in-Some.tens.down ≡ tens_down (parts_of text) = c.in-Some.ensures.tens.1 ∙ ap tens_down parts in
    let long : c.len.result ≡ length (digits text) = c.len.ensures ∙ ap length all in
    let zeros : ℕ = length (digits text) - c.end-end.result in
    let shifted_up : c.with_zeros.result.up ≡ tens_up (parts_of text) + zeros - tens_down (parts_of text) = c.with_zeros.ensures.up ∙ (λ i. up i + (long i - c.end-end.result) - down i) in
    let shifted_down : c.with_zeros.result.down ≡ tens_down (parts_of text) - (tens_up (parts_of text) + zeros) = c.with_zeros.ensures.down ∙ (λ i. down i - (up i + (long i - c.end-end.result))) in
    c.in_ok-push_tens.ensures ∙ ap (λ x. x ++ tens_text c.with_zeros.result.up c.with_zeros.result.down) (c.in_ok-push-2.ensures ∙ ap (λ x. x ++ slice_range c.of-digits.result c.start-start.result c.end-end.result) c.in_ok-push_sign.ensures)
    ∙ pieces c.args.out.now.items (sign_text c.is_negative.result) (slice_range c.of-digits.result c.start-start.result c.end-end.result) (tens_text c.with_zeros.result.up c.with_zeros.result.down)
    ∙ ap (λ x. c.args.out.now.items ++ x) ((λ i. (sign_text (sign i) ++ slice_range (all i) c.start-start.result c.end-end.result) ++ tens_text (shifted_up i) (shifted_down i)) ∙ sym normal)
