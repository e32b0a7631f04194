use Rattle.arrow_unique.proofs.Joined.{last-word}
use Rattle.arrow_unique.proofs.first_bits.FirstBitsBitSource.word.Goals as goal

pub returns-then-k-self-2 : goal.returns-then-k-self-2
returns-then-k-self-2 c =
    last-word c.args.self.now.count c.args.k c.args.self.now.words.now c.word-word.result c.low_bits.result c.if-k-self-2.true c.word-word.ensures c.low_bits.ensures.low c.low_bits.ensures.rest
