use Rattle.std.proofs.Common.{◌≡◌, replicate, vec_capacity, ◌≤◌}
use Rattle.polars_arrays_flat.proofs.fill.repeated.Given as goal

abbrev pub invariant-loop : goal.invariant-loop
invariant-loop g l = record {
  items : l.elements.items ≡ replicate l.counter l.value;
  room : l.len ≤ vec_capacity l.elements;
}
