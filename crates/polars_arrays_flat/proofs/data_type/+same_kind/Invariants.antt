use Rattle.std.proofs.Common.{ℕ, ◌<◌, get_or}
use Rattle.polars_arrays_flat.specs.DataType.{IsSameField}
use Rattle.polars_arrays_flat.specs.declared.data_type.Field.{Field}
use Rattle.polars_arrays_flat.proofs.data_type.+same_kind.Given as goal

abbrev pub invariant-same_fields-loop-i : goal.invariant-same_fields-loop-i
invariant-same_fields-loop-i l =
    (k : ℕ) (d : Field) → k < l.i → IsSameField (get_or l.left k d) (get_or l.right k d)
