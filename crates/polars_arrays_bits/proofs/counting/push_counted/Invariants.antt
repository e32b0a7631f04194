use Rattle.std.proofs.Common.{◌≡◌, ◌+◌, ◌*◌, min, false, length, get_or, vec_capacity}
use Rattle.polars_arrays_words.specs.Bits.{AreWords}
use Rattle.polars_arrays_bits.specs.Costs.{cost_of}
use Rattle.polars_arrays_bits.proofs.counting.push_counted.Given as goal

abbrev pub invariant-loop-k : goal.invariant-loop-k
invariant-loop-k g l = record {
  words : AreWords (λ i. get_or (g.V.CountedValues.values l.values) i false) l.k l.words.items;
  counted : l.steps ≡ l.initial.steps + cost_of (g.V.CountedValues.costs l.values) 0 (min (64 * l.k) (length (g.V.CountedValues.values l.values)));
  room : vec_capacity l.words ≡ vec_capacity l.initial.words;
}
