use Rattle.std.proofs.Common.{◌+◌}
use Rattle.polars_arrays_words.specs.Bits.{bit_of}
use Rattle.polars_arrays_words.proofs.TwoFolds.{word-folded-twos}
use Rattle.polars_arrays_words.proofs.folds.BitPairsBitSource.word.Goals as goal

pub returns : goal.returns
returns c =
    word-folded-twos (λ p. bit_of c.args.self.now.words.now (c.args.self.now.by + p)) c.args.k c.word_at.result c.word_at-2.result c.fold_two_words.result
    c.word_at.ensures c.word_at-2.ensures c.fold_two_words.ensures
