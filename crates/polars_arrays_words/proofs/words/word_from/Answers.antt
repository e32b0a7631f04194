use Rattle.std.proofs.Common.{◌≡◌, ◌∙◌, ℕ, ◌+◌, ◌*◌, ◌/◌, ◌%◌, ◌<◌, ap, arith}
use Rattle.polars_arrays_words.specs.Bits.{bit_of}
use Rattle.polars_arrays_words.proofs.SingleBits.{word-joined}
use Rattle.polars_arrays_words.proofs.words.word_from.Goals as goal

-- where bit i of the word stands
place : (by at i : ℕ) → (by + at % 64) % 64 + (64 * (at / 64 + (by + at % 64) / 64) + i) ≡ by + at + i
place by at i = omega arith

pub returns : goal.returns
returns c =
    let begin = c.args.by + c.args.at % 64 in
    let below : begin % 64 < 64 = omega arith in
    let joined = word-joined c.args.words.now (begin % 64) (c.args.at / 64 + begin / 64) c.word_or_zero.result c.word_or_zero-2.result c.bits_from.result below c.word_or_zero.ensures c.word_or_zero-2.ensures c.bits_from.ensures in
    λ i lt. joined.bits i lt ∙ ap (bit_of c.args.words.now) (place c.args.by c.args.at i)
