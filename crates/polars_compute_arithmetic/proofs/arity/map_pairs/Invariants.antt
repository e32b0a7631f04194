use Rattle.std.proofs.Common.{◌≡◌, ◌≤◌, length, take, vec_capacity}
use Rattle.std.specs.List.{AllZip, zip}
use Rattle.polars_compute_arithmetic.proofs.arity.map_pairs.Given as goal

abbrev pub invariant-loop-i : goal.invariant-loop-i
invariant-loop-i g l = record {
  mapped : AllZip (λ p r. goal.F-post g l.op p.0 p.1 r) (take l.i (zip l.left l.right)) l.mapped.items;
  so_far : length l.mapped.items ≡ l.i;
  room : length l.left ≤ vec_capacity l.mapped;
}
