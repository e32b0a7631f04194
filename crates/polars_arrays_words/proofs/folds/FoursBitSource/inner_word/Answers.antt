use Rattle.std.proofs.Common.{◌+◌}
use Rattle.polars_arrays_words.specs.Bits.{bit_of}
use Rattle.polars_arrays_words.proofs.FourFolds.{word-folded-fours}
use Rattle.polars_arrays_words.proofs.folds.FoursBitSource.inner_word.Goals as goal

pub returns : goal.returns
returns c =
    word-folded-fours (λ p. bit_of c.args.self.now.words.now (c.args.self.now.by + p)) c.args.k c.inner_word_at.result c.inner_word_at-2.result c.inner_word_at-3.result c.inner_word_at-4.result c.fold_four_words.result
    c.inner_word_at.ensures c.inner_word_at-2.ensures c.inner_word_at-3.ensures c.inner_word_at-4.ensures c.fold_four_words.ensures
