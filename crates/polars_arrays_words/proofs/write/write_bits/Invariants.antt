use Rattle.polars_arrays_words.specs.Bits.{IsWritten}
use Rattle.polars_arrays_words.proofs.write.write_bits.Given as goal

abbrev pub invariant-loop-p : goal.invariant-loop-p
invariant-loop-p l = IsWritten l.initial.words l.words l.from l.p l.value
