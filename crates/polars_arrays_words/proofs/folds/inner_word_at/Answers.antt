use Rattle.std.proofs.Common.{refl}
use Rattle.polars_arrays_words.proofs.SingleBits.{word-joined}
use Rattle.polars_arrays_words.proofs.folds.inner_word_at.Goals as goal

pub returns : goal.returns
returns c = word-joined c.args.words.now c.args.by c.args.k _ _ _ c.requires.by refl refl c.bits_from.ensures
