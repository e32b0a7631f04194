use Rattle.std.proofs.Common.{◌*◌}
use Rattle.polars_arrays_words.specs.Packing.{IsPacked}
use Rattle.polars_arrays_words.proofs.packing.pack_by_sixteens.Given as goal

abbrev pub invariant-loop-sixteen : goal.invariant-loop-sixteen
invariant-loop-sixteen g l = IsPacked l.word (g.V.TruthValues.values l.values) l.at (16 * l.sixteen)
