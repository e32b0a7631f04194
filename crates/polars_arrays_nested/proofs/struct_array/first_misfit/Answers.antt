use Rattle.std.proofs.Common.{rules}
use Rattle.polars_arrays_nested.proofs.struct_array.first_misfit.Goals as goal

pub loop-at-preserved : goal.loop-at-preserved
loop-at-preserved c = search rules
