use Rattle.std.proofs.Common.{◌+◌, ◌*◌, ap, sym, ◌∙◌, arith}
use Rattle.std.specs.Int.RustNames.{count_ones}
use Rattle.polars_arrays_words.proofs.Counts.{true_count-more, true_count-le}
use Rattle.polars_arrays_words.proofs.source.count_words.Goals as goal

pub overflow_add-counted : goal.overflow_add-counted
overflow_add-counted g c =
    let f = g.S.BitSource.bit c.args.source.now in
    let more = true_count-more f c.loop-k.k c.word.result c.word.ensures c.word.type_inv in
    let le = true_count-le f (64 * (c.loop-k.k + 1)) in
    record { fits = omega (arith, c.loop-k.invariant) }

pub loop-k-preserved : goal.loop-k-preserved
loop-k-preserved g c =
    let f = g.S.BitSource.bit c.args.source.now in
    ap (λ n. n + count_ones c.word.result) c.loop-k.invariant ∙ sym (true_count-more f c.loop-k.k c.word.result c.word.ensures c.word.type_inv)
