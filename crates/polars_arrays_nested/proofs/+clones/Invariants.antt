use Rattle.std.proofs.Common.{◌≡◌, ℕ, ◌<◌, length, get_or}
use Rattle.polars_arrays_nested.specs.Clones.{IsClone}
use Rattle.polars_arrays_nested.specs.declared.any_array.AnyArray.{AnyArray}
use Rattle.polars_arrays_nested.proofs.+clones.Given as goal

abbrev pub invariant-struct_array::clone_columns-loop-column :
    goal.invariant-struct_array::clone_columns-loop-column
invariant-struct_array::clone_columns-loop-column l =
    (length l.copies.items ≡ l.column-index)
    × ((i : ℕ) (d : AnyArray) → i < l.column-index → IsClone (get_or l.copies.items i d) (get_or l.columns i d))
