use Rattle.polars_arrays_words.proofs.SingleBits.{word-joined}
use Rattle.polars_arrays_words.proofs.folds.word_at.Goals as goal

pub returns : goal.returns
returns c = word-joined c.args.words.now c.args.by c.args.k _ _ _ c.requires.by c.word_or_zero.ensures c.word_or_zero-2.ensures c.bits_from.ensures
