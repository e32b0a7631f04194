use Rattle.polars_arrays_bits.specs.Guesses.{AreSure}
use Rattle.polars_arrays_words.specs.Packing.{IsPacked}
use Rattle.polars_arrays_bits.proofs.counting.guess_eight.Given as goal

abbrev pub invariant-loop-i : goal.invariant-loop-i
invariant-loop-i g l = AreSure (g.V.CountedValues.sure l.values) l.at l.i → IsPacked l.word (g.V.CountedValues.values l.values) l.at l.i
