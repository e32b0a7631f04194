use Rattle.std.specs.Prelude.{◌≡◌, length}
use Rattle.arrow_parts.proofs.WrittenLemmas.{WordsWritten}
use Rattle.arrow_parts.proofs.written.write_bits.Given as goal

abbrev pub invariant-loop-k : goal.invariant-loop-k
invariant-loop-k l = (length l.out ≡ length l.fn.out) × WordsWritten l.bits l.k l.out
