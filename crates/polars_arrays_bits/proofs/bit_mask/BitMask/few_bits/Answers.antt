use Rattle.std.proofs.Common.{◌+◌, ◌&&◌, ap, ◌∙◌, arith, bit_and}
use Rattle.std.proofs.Math.Bool.{and-true, and-false}
use Rattle.polars_arrays_words.specs.Bits.{bit_of, is_bit}
use Rattle.polars_arrays_words.proofs.Firsts.{first_same}
use Rattle.polars_arrays_words.proofs.OperatorBits.{is_bit_and}
use Rattle.polars_arrays_bits.proofs.Windows.{window-part}
use Rattle.polars_arrays_bits.proofs.bit_mask.BitMask.few_bits.Goals as goal

pub returns-clause-bits : goal.returns-clause-bits
returns-clause-bits c =
    let inside = c.self.inside in
    let words = inside.words.now in
    let word = c.word_from.result in
    first_same (is_bit (bit_and word c.low_bits.result)) (λ i. bit_of words (inside.at + c.args.at + i)) c.args.n
    (λ i lt.
    is_bit_and word c.low_bits.result i
    ∙ ap (λ b. is_bit word i && b) (c.low_bits.ensures.low i lt)
    ∙ and-true (is_bit word i)
    ∙ c.word_from.ensures i (omega (arith, c.requires.few)))
    ∙ window-part words inside.at inside.len c.args.at c.args.n c.args.self.now c.self.view_is c.requires.within

pub returns-clause-rest : goal.returns-clause-rest
returns-clause-rest c = λ i past lt.
    is_bit_and c.word_from.result c.low_bits.result i
    ∙ ap (λ b. is_bit c.word_from.result i && b) (c.low_bits.ensures.rest i past lt)
    ∙ and-false (is_bit c.word_from.result i)
