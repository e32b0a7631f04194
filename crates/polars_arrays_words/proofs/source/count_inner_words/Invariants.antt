use Rattle.std.proofs.Common.{◌≡◌, ◌*◌}
use Rattle.polars_arrays_words.specs.Bits.{true_count}
use Rattle.polars_arrays_words.proofs.source.count_inner_words.Given as goal

abbrev pub invariant-loop-four : goal.invariant-loop-four
invariant-loop-four g l = l.counted ≡ true_count (g.S.BitSource.bit l.source) (64 * (4 * l.four))
