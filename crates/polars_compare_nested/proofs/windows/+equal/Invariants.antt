use Rattle.std.proofs.Common.{◌≡◌, ◌+◌, ◌-◌, ◌≤◌, length, take}
use Rattle.polars_arrays_nested.specs.Parts.{columns}
use Rattle.polars_arrays_nested.specs.declared.any_array.AnyArray.{List, Dictionary}
use Rattle.polars_compare_nested.specs.Bits.{RawBits}
use Rattle.polars_compare_nested.specs.Known.{AreKnown}
use Rattle.polars_compare_nested.specs.Tally.{tally}
use Rattle.polars_compare_nested.specs.TallyColumns.{columns_tally}
use Rattle.polars_compare_nested.proofs.Columns.{ColumnBits}
use Rattle.polars_compare_nested.proofs.windows.+equal.Given as goal

abbrev pub invariant-eq_dictionaries-loop-i : goal.invariant-eq_dictionaries-loop-i
invariant-eq_dictionaries-loop-i g l =
    RawBits g.K.LeafKernel.agree (Dictionary l.left) l.a (Dictionary l.right) l.b l.i l.bits.bits
    × (g.K.LeafKernel.count l.steps ≡ g.K.LeafKernel.count l.fn.steps + tally (Dictionary l.left) (Dictionary l.right) l.a l.b l.i)
    × (g.K.LeafKernel.count l.fn.steps ≤ g.K.LeafKernel.count l.steps)
    × (l.n - l.i ≤ l.bits.room)

abbrev pub invariant-eq_lists-loop-done : goal.invariant-eq_lists-loop-done
invariant-eq_lists-loop-done g l =
    (l.done ≤ l.n)
    × RawBits g.K.LeafKernel.agree (List l.left) l.a (List l.right) l.b l.done l.bits.bits
    × (g.K.LeafKernel.count l.steps ≡ g.K.LeafKernel.count l.fn.steps + tally (List l.left) (List l.right) l.a l.b l.done)
    × (g.K.LeafKernel.count l.fn.steps ≤ g.K.LeafKernel.count l.steps)
    × (l.n - l.done ≤ l.bits.room)
    × AreKnown l.left (l.a + l.done) l.right (l.b + l.done) (l.n - l.done) l.matches

abbrev pub decreases-eq_lists-loop-done : goal.decreases-eq_lists-loop-done
decreases-eq_lists-loop-done g l = l.n - l.done

abbrev pub invariant-eq_structs-loop-i : goal.invariant-eq_structs-loop-i
invariant-eq_structs-loop-i g l =
    ColumnBits g.K.LeafKernel.agree (columns l.left) l.a (columns l.right) l.b l.n l.i l.bits
    × (g.K.LeafKernel.count l.steps ≡ g.K.LeafKernel.count l.fn.steps + columns_tally (take l.i (columns l.left)) (take l.i (columns l.right)) l.a l.b l.n)
    × (g.K.LeafKernel.count l.fn.steps ≤ g.K.LeafKernel.count l.steps)
    × (l.count ≡ length (columns l.left))
