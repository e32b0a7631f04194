use Rattle.std.proofs.Common.{rules}
use Rattle.polars_compute_unique.proofs.boolean.BooleanUniqueKernelStateRangedUniqueKernel.append_state.Goals as goal

pub returns-clause-state : goal.returns-clause-state
returns-clause-state c = search rules
