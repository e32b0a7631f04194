use Rattle.std.proofs.Common.{◌<◌, arith, length}
use Rattle.std.proofs.lemmas.Int.Digits.{digits_value_more}
use Rattle.std.proofs.lemmas.Str.{digit_value_digit}
use Rattle.std.proofs.lemmas.Str.Parse.{digit_at}
use Rattle.json_decimals.proofs.TensLemmas.{ten_times}
use Rattle.json_decimals.proofs.tens.value_of.Goals as goal

pub returns-then-value-ge100000000000000000000000000000 : goal.returns-then-value-ge100000000000000000000000000000
returns-then-value-ge100000000000000000000000000000 c =
    let within : c.loop-digit.digit-index < length c.args.digits.now = omega arith in
    λ less. omega (arith, ten_times c.args.digits.now c.loop-digit.digit-index within)

pub overflow_sub-value : goal.overflow_sub-value
overflow_sub-value c = (digit_at c.args.digits.now c.loop-digit.digit-index c.requires (omega arith)).0

pub loop-digit-preserved : goal.loop-digit-preserved
loop-digit-preserved c =
    let digit = digit_at c.args.digits.now c.loop-digit.digit-index c.requires (omega arith) in
    let value = digit_value_digit _ digit in
    let more = digits_value_more 10 c.args.digits.now c.loop-digit.digit-index (omega arith) in
    (omega arith, omega arith)
