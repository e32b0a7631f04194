use Rattle.std.proofs.Common.{◌≡◌, ◌+◌, ◌-◌, ◌≤◌}
use Rattle.polars_arrays_nested.specs.declared.any_array.AnyArray.{Dictionary}
use Rattle.polars_compare_nested.specs.Bits.{AddsRawBits}
use Rattle.polars_compare_nested.specs.Tally.{tally}
use Rattle.polars_compare_nested.proofs.leaf_entries.push_block.Given as goal

abbrev pub invariant-loop-i : goal.invariant-loop-i
invariant-loop-i g l =
    AddsRawBits g.K.LeafKernel.agree (Dictionary l.left) l.a (Dictionary l.right) l.b l.i l.fn.bits.bits l.bits.bits
    × (g.K.LeafKernel.count l.steps ≡ g.K.LeafKernel.count l.fn.steps + tally (Dictionary l.left) (Dictionary l.right) l.a l.b l.i)
    × (g.K.LeafKernel.count l.fn.steps ≤ g.K.LeafKernel.count l.steps)
    × (l.bits.room ≡ l.fn.bits.room - l.i)
