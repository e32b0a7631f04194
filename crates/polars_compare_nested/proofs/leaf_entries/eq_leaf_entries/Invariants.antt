use Rattle.std.proofs.Common.{◌≡◌, ◌+◌, ◌-◌, ◌≤◌}
use Rattle.polars_arrays_nested.specs.declared.any_array.AnyArray.{Dictionary}
use Rattle.polars_compare_nested.specs.Bits.{RawBits}
use Rattle.polars_compare_nested.specs.Tally.{tally}
use Rattle.polars_compare_nested.proofs.leaf_entries.eq_leaf_entries.Given as goal

abbrev pub invariant-loop-done : goal.invariant-loop-done
invariant-loop-done g l =
    (l.done ≤ l.n)
    × RawBits g.K.LeafKernel.agree (Dictionary l.left) l.a (Dictionary l.right) l.b l.done l.bits.bits
    × (g.K.LeafKernel.count l.steps ≡ g.K.LeafKernel.count l.fn.steps + tally (Dictionary l.left) (Dictionary l.right) l.a l.b l.done)
    × (g.K.LeafKernel.count l.fn.steps ≤ g.K.LeafKernel.count l.steps)
    × (l.n - l.done ≤ l.bits.room)

abbrev pub decreases-loop-done : goal.decreases-loop-done
decreases-loop-done g l = l.n - l.done
