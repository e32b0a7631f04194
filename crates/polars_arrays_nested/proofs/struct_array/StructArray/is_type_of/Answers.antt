use Rattle.std.proofs.Common.{rules}
use Rattle.polars_arrays_nested.proofs.SameTypes.{never, struct_only}
use Rattle.polars_arrays_nested.proofs.struct_array.StructArray.is_type_of.Goals as goal

pub returns-in_default : goal.returns-in_default
returns-in_default c = never _ (λ e. struct_only c.args.other.now _ e c.in_default.not-Struct)

pub returns-in-Struct : goal.returns-in-Struct
returns-in-Struct c = search rules
