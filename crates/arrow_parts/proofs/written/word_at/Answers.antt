use Rattle.std.proofs.Common.{◌≡◌, ◌+◌, ◌*◌, ◌%◌, length, arith}
use Rattle.arrow_parts.proofs.WrittenLemmas.{last-word, whole-word}
use Rattle.arrow_parts.proofs.written.word_at.Goals as goal

pub returns-then-k-count : goal.returns-then-k-count
returns-then-k-count c = whole-word c.args.mask.now c.args.k c.word.result c.word.ensures

pub returns-then-not-is_multiple_of : goal.returns-then-not-is_multiple_of
returns-then-not-is_multiple_of c =
    let long : length c.args.mask.now ≡ 64 * c.args.k + c.len-count.result % 64 = omega (arith, c.len-count.ensures, c.if-k-count-2.true) in
    last-word c.args.mask.now c.args.k c.few_bits.result (c.len-count.result % 64) long c.few_bits.ensures.bits c.few_bits.ensures.rest
