use Rattle.std.proofs.Common.{◌≡◌, ◌+◌, ◌-◌, ◌*◌, ◌/◌, ◌%◌, ◌≤◌, length, get_or, take, drop, ap, ◌∙◌, arith}
use Rattle.std.proofs.lemmas.List.{length-drop, length-take}
use Rattle.polars_arrays_words.specs.Bits.{is_bit}
use Rattle.arrow_parts.proofs.ByteWordLemmas.{bits-window}
use Rattle.arrow_parts.proofs.bits.bits_of.Goals as goal

pub returns-clause-bits : goal.returns-clause-bits
returns-clause-bits c =
    let at = c.args.at in
    let bytes = c.args.bytes.now in
    let end = c.div_ceil-2.result in
    let cut = take (end - at / 8) (drop (at / 8) bytes) in
    let before : at + c.args.n ≤ 8 * end = omega (arith, c.in-Some.ensures, c.div_ceil-2.ensures) in
    let all : end ≤ length bytes = omega (arith, c.div_ceil.ensures, c.div_ceil-2.ensures) in
    let long : length cut ≡ end - at / 8 = omega (arith, length-take (end - at / 8) (drop (at / 8) bytes), length-drop (at / 8) bytes) in
    let room : at % 8 + c.args.n ≤ 8 * length cut = omega arith in
    bits-window bytes c.in_ok-words.words.items at c.args.n end (length cut) c.from_words-2.result c.in_ok-words.ensures.bits room before c.from_words-2.ensures.len
    (λ i low. c.from_words-2.ensures.bits i low ∙ ap (λ b. is_bit (get_or b.items ((at % 8 + i) / 64) 0) ((at % 8 + i) % 64)) c.from_vec-2.ensures)
