use Rattle.std.specs.Prelude.{◌≡◌, ◌+◌, ◌≤◌, length, map, string_bytes, take, vec_capacity}
use Rattle.arrow_arrays.specs.Stacks.{AreTaken}
use Rattle.arrow_arrays.specs.Stands.{AreTyped, field_names}
use Rattle.arrow_arrays.proofs.build.take_fields.Given as goal

abbrev pub invariant-loop-i : goal.invariant-loop-i
invariant-loop-i l = AreTyped l.fields.items (take l.i l.columns) × (length l.fn.names.items ≡ l.i + length l.names.items) × (length l.columns ≤ length l.fn.names.items) × AreTaken l.i (field_names l.fields.items) (map string_bytes l.fn.names.items) (map string_bytes l.names.items)
