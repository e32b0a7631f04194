use Rattle.std.proofs.Common.{◌*◌}
use Rattle.polars_arrays_words.specs.Bits.{IsWritten}
use Rattle.polars_arrays_words.proofs.write.write_words.Given as goal

abbrev pub invariant-loop-k : goal.invariant-loop-k
invariant-loop-k l = IsWritten l.initial.words l.words (64 * l.from) (64 * l.k) l.value
