use Rattle.std.proofs.Common.{◌+◌}
use Rattle.polars_arrays_words.specs.Bits.{bit_of}
use Rattle.polars_arrays_words.proofs.FourFolds.{word-folded-fours}
use Rattle.polars_arrays_words.proofs.folds.FoursBitSource.word.Goals as goal

pub returns : goal.returns
returns c =
    word-folded-fours (λ p. bit_of c.args.self.now.words.now (c.args.self.now.by + p)) c.args.k c.word_at.result c.word_at-2.result c.word_at-3.result c.word_at-4.result c.fold_four_words.result
    c.word_at.ensures c.word_at-2.ensures c.word_at-3.ensures c.word_at-4.ensures c.fold_four_words.ensures
