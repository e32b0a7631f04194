use Rattle.polars_arrays_words.specs.Bits.{IsChanged}
use Rattle.polars_arrays_words.proofs.changes.change_words.Given as goal

abbrev pub invariant-loop-k : goal.invariant-loop-k
invariant-loop-k g l = IsChanged (g.C.WordChange.bit l.change) l.initial.words l.words l.from l.k
