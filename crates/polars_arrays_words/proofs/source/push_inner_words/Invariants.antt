use Rattle.std.proofs.Common.{◌≡◌, vec_capacity}
use Rattle.polars_arrays_words.specs.Bits.{AreWords}
use Rattle.polars_arrays_words.proofs.source.push_inner_words.Given as goal

abbrev pub invariant-loop-k : goal.invariant-loop-k
invariant-loop-k g l = record {
  words : AreWords (g.S.BitSource.bit l.source) l.k l.words.items;
  room : vec_capacity l.words ≡ vec_capacity l.initial.words;
}
