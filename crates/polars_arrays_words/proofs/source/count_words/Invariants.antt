use Rattle.std.proofs.Common.{◌≡◌, ◌*◌}
use Rattle.polars_arrays_words.specs.Bits.{true_count}
use Rattle.polars_arrays_words.proofs.source.count_words.Given as goal

abbrev pub invariant-loop-k : goal.invariant-loop-k
invariant-loop-k g l = l.counted ≡ true_count (g.S.BitSource.bit l.source) (64 * l.k)
