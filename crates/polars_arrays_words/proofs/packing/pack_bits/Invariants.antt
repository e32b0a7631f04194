use Rattle.std.proofs.Common.{◌+◌, ◌-◌}
use Rattle.polars_arrays_words.specs.Packing.{IsPacked}
use Rattle.polars_arrays_words.proofs.packing.pack_bits.Given as goal

abbrev pub invariant-loop-i : goal.invariant-loop-i
invariant-loop-i g l = IsPacked l.word (g.V.TruthValues.values l.values) (l.at + (l.count - l.i)) l.i
