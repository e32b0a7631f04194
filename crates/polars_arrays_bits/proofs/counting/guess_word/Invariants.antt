use Rattle.std.proofs.Common.{◌*◌}
use Rattle.polars_arrays_bits.specs.Guesses.{AreSure}
use Rattle.polars_arrays_words.specs.Packing.{IsPacked}
use Rattle.polars_arrays_bits.proofs.counting.guess_word.Given as goal

abbrev pub invariant-loop-eight : goal.invariant-loop-eight
invariant-loop-eight g l = AreSure (g.V.CountedValues.sure l.values) l.at (8 * l.eight) → IsPacked l.word (g.V.CountedValues.values l.values) l.at (8 * l.eight)
