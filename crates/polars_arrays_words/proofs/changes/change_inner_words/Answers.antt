use Rattle.std.proofs.Common.{◌<◌, length, arith}
use Rattle.polars_arrays_words.proofs.ChangedWords.{changed-word}
use Rattle.polars_arrays_words.proofs.changes.change_inner_words.Goals as goal

pub loop-k-preserved : goal.loop-k-preserved
loop-k-preserved g c =
    let there : c.loop-k.k < length c.loop-k.words = omega (arith, c.loop-k.auto.words) in
    changed-word _ _ c.loop-k.words 0 c.loop-k.k c.inner_word.result there (omega arith) c.loop-k.invariant c.inner_word.ensures
