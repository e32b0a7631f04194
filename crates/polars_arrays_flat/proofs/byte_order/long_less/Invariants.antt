use Rattle.std.proofs.Common.{◌≡◌, ◌*◌, take}
use Rattle.std.specs.Cmp.Lexicographic.{slice_cmp}
use Rattle.std.specs.Ordering.{nat_cmp}
use Rattle.std.specs.declared.cmp.Ordering.TheVariants.{Equal}
use Rattle.polars_arrays_flat.proofs.byte_order.long_less.Given as goal

-- all bytes so far are the same
abbrev pub invariant-loop-k : goal.invariant-loop-k
invariant-loop-k l =
    slice_cmp nat_cmp (take (8 * l.k) l.fn.left) (take (8 * l.k) l.fn.right) ≡ Equal
