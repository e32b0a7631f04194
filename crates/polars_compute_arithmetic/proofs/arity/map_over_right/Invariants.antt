use Rattle.std.proofs.Common.{◌≡◌, take, drop}
use Rattle.std.specs.List.{AllZip, zip}
use Rattle.polars_compute_arithmetic.proofs.arity.map_over_right.Given as goal

abbrev pub invariant-loop-i : goal.invariant-loop-i
invariant-loop-i g l = record {
  mapped : AllZip (λ p r. goal.F-post g l.op p.0 p.1 r) (take l.i (zip l.initial.left l.initial.right)) (take l.i l.right);
  left : drop l.i l.right ≡ drop l.i l.initial.right;
}
