use Rattle.std.proofs.Common.{◌≡◌, ◌≤◌, length, map, take, vec_capacity}
use Rattle.num_traits.specs.Laws.{bit_len}
use Rattle.polars_compute_reductions.specs.Bitwise.{number_bits}
use Rattle.polars_compute_reductions.proofs.bit_counts.count_each.Given as goal

abbrev pub invariant-loop-number : goal.invariant-loop-number
invariant-loop-number g l = record {
  counted : l.counts.items ≡ map (λ x. g.C.BitCount.amount (number_bits (bit_len g.T.FixedWidth.width) (g.T.Number.value x))) (take l.number-index l.numbers);
  so_far : length l.counts.items ≡ l.number-index;
  room : length l.numbers ≤ vec_capacity l.counts;
}
