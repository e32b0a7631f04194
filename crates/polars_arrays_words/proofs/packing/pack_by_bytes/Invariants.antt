use Rattle.std.proofs.Common.{◌*◌}
use Rattle.polars_arrays_words.specs.Packing.{IsPacked}
use Rattle.polars_arrays_words.proofs.packing.pack_by_bytes.Given as goal

abbrev pub invariant-loop-eight : goal.invariant-loop-eight
invariant-loop-eight g l = IsPacked l.word (g.V.TruthValues.values l.values) l.at (8 * l.eight)
