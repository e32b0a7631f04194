use Rattle.std.proofs.Common.{◌≡◌, ◌+◌}
use Rattle.polars_arrays_bits.specs.Costs.{cost_of}
use Rattle.polars_arrays_words.specs.Packing.{IsPacked}
use Rattle.polars_arrays_bits.proofs.counting.pack_counted.Given as goal

abbrev pub invariant-loop-i : goal.invariant-loop-i
invariant-loop-i g l = record {
  packed : IsPacked l.word (g.V.CountedValues.values l.values) l.at l.i;
  counted : l.steps ≡ l.initial.steps + cost_of (g.V.CountedValues.costs l.values) l.at l.i;
}
