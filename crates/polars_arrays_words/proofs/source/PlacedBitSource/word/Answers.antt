use Rattle.polars_arrays_words.proofs.SingleBits.{word-joined}
use Rattle.polars_arrays_words.proofs.source.PlacedBitSource.word.Goals as goal

pub returns : goal.returns
returns c = word-joined c.args.self.now.words.now c.args.self.now.by c.args.k _ _ _ c.args.self.now.within_word c.word_or_zero.ensures c.word_or_zero-2.ensures c.bits_from.ensures
