use Rattle.polars_arrays_words.specs.Packing.{IsMarked}
use Rattle.polars_arrays_words.proofs.packing.mark_next.Given as goal

abbrev pub invariant-loop-i : goal.invariant-loop-i
invariant-loop-i g l = IsMarked g.row.N l.flags (g.V.TruthValues.values l.values) l.at l.i
