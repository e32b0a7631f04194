use Rattle.std.proofs.Common.{◌≡◌, ◌≤◌, length, map, take, vec_capacity}
use Rattle.polars_compute_reductions.specs.Bitwise.{truth_count}
use Rattle.polars_compute_reductions.proofs.truths.count_each_bit.Given as goal

abbrev pub invariant-loop-i : goal.invariant-loop-i
invariant-loop-i l = record {
  counted : l.counts.items ≡ map (truth_count l.ones) (take l.i l.bits);
  so_far : length l.counts.items ≡ l.i;
  room : length l.bits ≤ vec_capacity l.counts;
}
