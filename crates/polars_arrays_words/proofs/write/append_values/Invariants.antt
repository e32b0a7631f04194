use Rattle.std.proofs.Common.{◌*◌}
use Rattle.polars_arrays_words.specs.Packing.{AreAppended}
use Rattle.polars_arrays_words.proofs.write.append_values.Given as goal

abbrev pub invariant-loop-k : goal.invariant-loop-k
invariant-loop-k g l = AreAppended l.initial.words l.words l.from (g.V.TruthValues.values l.values) (64 * l.k)
