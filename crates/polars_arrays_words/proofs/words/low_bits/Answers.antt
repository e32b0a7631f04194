use Rattle.std.proofs.Common.{arith}
use Rattle.polars_arrays_words.proofs.SingleBits.{low-true, low-false}
use Rattle.polars_arrays_words.proofs.WrittenBits.{ones_bit}
use Rattle.polars_arrays_words.proofs.words.low_bits.Goals as goal

pub returns-then-n-lt-WORD_BITS-clause-low : goal.returns-then-n-lt-WORD_BITS-clause-low
returns-then-n-lt-WORD_BITS-clause-low c = λ i lt. low-true c.args.n i c.if-n-lt-WORD_BITS.true lt

pub returns-then-n-lt-WORD_BITS-clause-rest : goal.returns-then-n-lt-WORD_BITS-clause-rest
returns-then-n-lt-WORD_BITS-clause-rest c = λ i past lt. low-false c.args.n i c.if-n-lt-WORD_BITS.true past

pub returns-else-n-lt-WORD_BITS-clause-low : goal.returns-else-n-lt-WORD_BITS-clause-low
returns-else-n-lt-WORD_BITS-clause-low c = λ i lt. ones_bit i (omega arith)
