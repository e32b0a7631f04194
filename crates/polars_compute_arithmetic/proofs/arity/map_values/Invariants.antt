use Rattle.std.proofs.Common.{◌≡◌, ◌≤◌, length, take, vec_capacity}
use Rattle.std.specs.List.{AllZip}
use Rattle.polars_compute_arithmetic.proofs.arity.map_values.Given as goal

abbrev pub invariant-loop-value : goal.invariant-loop-value
invariant-loop-value g l = record {
  mapped : AllZip (λ x r. goal.F-post g l.op x r) (take l.value-index l.values) l.mapped.items;
  so_far : length l.mapped.items ≡ l.value-index;
  room : length l.values ≤ vec_capacity l.mapped;
}
