use Rattle.std.specs.Prelude.{◌≡◌, ◌*◌, length}
use Rattle.arrow_parts.specs.ByteWords.{HaveBytes}
use Rattle.arrow_parts.proofs.bits.words_of.Given as goal

abbrev pub invariant-loop-k : goal.invariant-loop-k
invariant-loop-k l = (length l.words.items ≡ l.k) × HaveBytes l.bytes (8 * l.k) l.words.items
