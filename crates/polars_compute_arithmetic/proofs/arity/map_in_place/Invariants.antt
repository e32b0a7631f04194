use Rattle.std.proofs.Common.{◌≡◌, take, drop}
use Rattle.std.specs.List.{AllZip}
use Rattle.polars_compute_arithmetic.proofs.arity.map_in_place.Given as goal

abbrev pub invariant-loop-value : goal.invariant-loop-value
invariant-loop-value g l = record {
  mapped : AllZip (λ x r. goal.F-post g l.op x r) (take l.value-index l.initial.values) (take l.value-index l.values);
  left : drop l.value-index l.values ≡ drop l.value-index l.initial.values;
}
