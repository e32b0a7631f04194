use Rattle.std.proofs.Common.{◌≡◌, ℕ, ◌<◌, length, get_or}
use Rattle.polars_arrays_flat.specs.DataType.{IsSameField}
use Rattle.polars_arrays_flat.specs.declared.data_type.Field.{Field}
use Rattle.polars_arrays_nested.proofs.data_types.+clone_types.Given as goal

abbrev pub invariant-clone_fields-loop-field : goal.invariant-clone_fields-loop-field
invariant-clone_fields-loop-field l =
    (length l.copies.items ≡ l.field-index)
    × ((k : ℕ) (d : Field) → k < l.field-index → IsSameField (get_or l.copies.items k d) (get_or l.fields k d))
