use Rattle.std.proofs.Common.{◌≡◌, IsTrue}
use Rattle.polars_arrays_bits.specs.Costs.{cost_of}
use Rattle.polars_arrays_bits.specs.Guesses.{AreSure}
use Rattle.polars_arrays_bits.proofs.counting.are_sure.Given as goal

abbrev pub invariant-loop-i : goal.invariant-loop-i
invariant-loop-i g l = record {
  sure : IsTrue l.sure → AreSure (g.V.CountedValues.sure l.values) l.at l.i;
  free : IsTrue l.sure → cost_of (g.V.CountedValues.costs l.values) l.at l.i ≡ 0;
}
