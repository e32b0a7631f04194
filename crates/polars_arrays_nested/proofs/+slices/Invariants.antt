use Rattle.std.proofs.Common.{◌≡◌, ℕ, ◌<◌, length, get_or}
use Rattle.polars_arrays_nested.specs.Cuts.{IsCut}
use Rattle.polars_arrays_nested.specs.Parts.{columns, struct_validity}
use Rattle.polars_arrays_nested.specs.declared.any_array.AnyArray.{AnyArray}
use Rattle.polars_arrays_nested.proofs.+slices.Given as goal

abbrev pub invariant-struct_array::StructArray::slice-loop-i :
    goal.invariant-struct_array::StructArray::slice-loop-i
invariant-struct_array::StructArray::slice-loop-i l =
    goal.unvisited-struct_array::StructArray::slice-loop-i l
    × (length (columns l.self) ≡ length (columns l.initial.self))
    × ((k : ℕ) (d : AnyArray) → k < l.i → IsCut (get_or (columns l.self) k d) (get_or (columns l.initial.self) k d) l.at l.n)
    × (l.self.fields ≡ l.initial.self.fields)
    × (struct_validity l.self ≡ struct_validity l.initial.self)
