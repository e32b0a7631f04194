use Rattle.std.proofs.Common.{◌*◌}
use Rattle.polars_arrays_words.specs.Packing.{IsMarked}
use Rattle.polars_arrays_words.proofs.packing.pack_by_flags.Given as goal

abbrev pub invariant-loop-sixteen : goal.invariant-loop-sixteen
invariant-loop-sixteen g l = IsMarked 64 l.flags (g.V.TruthValues.values l.values) l.at (16 * l.sixteen)
