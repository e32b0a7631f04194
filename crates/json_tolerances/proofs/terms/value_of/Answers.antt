use Rattle.std.proofs.Common.{◌<◌, ◌++◌, List, ℕ, arith, length, length-append}
use Rattle.std.proofs.lemmas.Int.Digits.{digits_value_more}
use Rattle.std.proofs.lemmas.Str.{digit_value_digit}
use Rattle.std.proofs.lemmas.Str.Parse.{digit_at}
use Rattle.fast_float.proofs.Rows.{AllDigits-append}
use Rattle.json_decimals.proofs.TensLemmas.{ten_times}
use Rattle.json_tolerances.proofs.terms.value_of.Goals as goal

pub returns-then-value-ge100000000000000000 : goal.returns-then-value-ge100000000000000000
returns-then-value-ge100000000000000000 c =
    let ds : List ℕ = c.args.front.now ++ c.args.back.now in
    let within : c.loop-i.i < length ds = omega (arith, length-append c.args.front.now c.args.back.now) in
    λ less. omega (arith, ten_times ds c.loop-i.i within)

pub overflow_sub-value : goal.overflow_sub-value
overflow_sub-value c =
    let ds : List ℕ = c.args.front.now ++ c.args.back.now in
    let within : c.loop-i.i < length ds = omega (arith, length-append c.args.front.now c.args.back.now) in
    let digit = digit_at ds c.loop-i.i (AllDigits-append _ _ c.requires.front c.requires.back) within in
    omega (arith, digit, c.byte_at.ensures)

pub loop-i-preserved : goal.loop-i-preserved
loop-i-preserved c =
    let ds : List ℕ = c.args.front.now ++ c.args.back.now in
    let within : c.loop-i.i < length ds = omega (arith, length-append c.args.front.now c.args.back.now) in
    let digit = digit_at ds c.loop-i.i (AllDigits-append _ _ c.requires.front c.requires.back) within in
    let value = digit_value_digit _ digit in
    let more = digits_value_more 10 ds c.loop-i.i within in
    let same = c.byte_at.ensures in
    (omega (arith, digit, value, more, same), omega (arith, digit, same))
