use Rattle.std.proofs.Common.{◌+◌, ◌*◌, ◌<◌, length, set, arith}
use Rattle.polars_arrays_words.proofs.WrittenBits.{written-word, written-more}
use Rattle.polars_arrays_words.proofs.write.write_words.Goals as goal

pub loop-k-preserved : goal.loop-k-preserved
loop-k-preserved c =
    let there : c.loop-k.k < length c.loop-k.words = omega (arith, c.loop-k.invariant.count) in
    written-more c.args.words.now c.loop-k.words (set c.loop-k.words c.loop-k.k c.filled_word-word.result) (64 * c.args.from) (64 * c.loop-k.k) (64 * (c.loop-k.k + 1)) c.args.value
    c.loop-k.invariant
    (written-word c.loop-k.words c.loop-k.k c.filled_word-word.result c.args.value there c.filled_word-word.ensures)
    (omega arith) (omega arith)
