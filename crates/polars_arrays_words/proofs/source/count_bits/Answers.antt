use Rattle.std.proofs.Common.{◌+◌, ◌-◌, ◌*◌, ◌%◌, ◌^◌, bit_and, ap, sym, ◌∙◌, arith}
use Rattle.std.specs.Int.RustNames.{count_ones}
use Rattle.polars_arrays_words.proofs.Counts.{true_count-end, true_count-le}
use Rattle.polars_arrays_words.proofs.source.count_bits.Goals as goal

pub overflow_add-result : goal.overflow_add-result
overflow_add-result g c =
    let f = g.S.BitSource.bit c.args.source.now in
    let all = true_count-end f c.args.len c.word.result c.word.ensures in
    let le = true_count-le f c.args.len in
    record { fits = omega (arith, c.count_words-counted.ensures) }

pub returns : goal.returns
returns g c =
    let f = g.S.BitSource.bit c.args.source.now in
    ap (λ n. n + count_ones (bit_and c.word.result (1 * 2 ^ (c.args.len % 64) % 2 ^ 64 - 1))) c.count_words-counted.ensures
    ∙ sym (true_count-end f c.args.len c.word.result c.word.ensures)
