use Rattle.arrow_parts.specs.ByteWords.{IsBytes}
use Rattle.arrow_parts.proofs.bits.few_bytes.Given as goal

abbrev pub invariant-loop-k : goal.invariant-loop-k
invariant-loop-k l = IsBytes l.bytes l.at l.k l.word
