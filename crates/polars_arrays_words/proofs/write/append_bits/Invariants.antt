use Rattle.std.proofs.Common.{◌*◌, min}
use Rattle.polars_arrays_words.specs.Bits.{first_of}
use Rattle.polars_arrays_words.specs.Packing.{AreAppended}
use Rattle.polars_arrays_words.proofs.write.append_bits.Given as goal

abbrev pub invariant-loop-k : goal.invariant-loop-k
invariant-loop-k g l = AreAppended l.initial.words l.words l.from (first_of (g.S.BitSource.bit l.source) l.len) (min (64 * l.k) l.len)
