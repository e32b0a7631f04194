use Rattle.std.proofs.Common.{◌≡◌, ◌*◌, vec_capacity}
use Rattle.polars_arrays_words.specs.Bits.{AreWords}
use Rattle.polars_arrays_words.proofs.source.push_fours.Given as goal

abbrev pub invariant-loop-four : goal.invariant-loop-four
invariant-loop-four g l = record {
  words : AreWords (g.S.BitSource.bit l.source) (4 * l.four) l.words.items;
  room : vec_capacity l.words ≡ vec_capacity l.initial.words;
}
