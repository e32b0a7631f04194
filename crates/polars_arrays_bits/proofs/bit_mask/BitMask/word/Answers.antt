use Rattle.std.proofs.Common.{◌≡◌, ◌+◌, ◌*◌, ap, ◌∙◌, arith}
use Rattle.polars_arrays_words.specs.Bits.{bit_of, is_bit}
use Rattle.polars_arrays_words.proofs.Firsts.{first_same}
use Rattle.polars_arrays_bits.proofs.Windows.{window-part, length_is}
use Rattle.polars_arrays_bits.proofs.bit_mask.BitMask.word.Goals as goal

pub inner_word-requires : goal.inner_word-requires
inner_word-requires c =
    let inside = c.self.inside in
    omega (arith, c.requires, c.self.invariant.1, length_is (λ i. bit_of inside.words.now (inside.at + i)) inside.len c.args.self.now c.self.view_is)

pub returns-then-self-eq0 : goal.returns-then-self-eq0
returns-then-self-eq0 c =
    let inside = c.self.inside in
    let words = inside.words.now in
    first_same (is_bit c.inner_word.result) (λ i. bit_of words (inside.at + 64 * c.args.k + i)) 64
    (λ i lt.
    let place : 64 * c.args.k + i ≡ inside.at + 64 * c.args.k + i = omega (arith, c.if-self-eq0.true) in
    c.inner_word.ensures.bits i lt ∙ ap (bit_of words) place)
    ∙ window-part words inside.at inside.len (64 * c.args.k) 64 c.args.self.now c.self.view_is c.requires

pub inner_word-requires-2 : goal.inner_word-requires-2
inner_word-requires-2 c =
    let inside = c.self.inside in
    omega (arith, c.requires, c.if-self-eq0.false, c.self.invariant.1, length_is (λ i. bit_of inside.words.now (inside.at + i)) inside.len c.args.self.now c.self.view_is)

pub returns : goal.returns
returns c =
    let inside = c.self.inside in
    let words = inside.words.now in
    first_same (is_bit c.inner_word-2.result) (λ i. bit_of words (inside.at + 64 * c.args.k + i)) 64
    (λ i lt.
    let place : inside.at + (64 * c.args.k + i) ≡ inside.at + 64 * c.args.k + i = omega arith in
    c.inner_word-2.ensures.bits i lt ∙ ap (bit_of words) place)
    ∙ window-part words inside.at inside.len (64 * c.args.k) 64 c.args.self.now c.self.view_is c.requires
