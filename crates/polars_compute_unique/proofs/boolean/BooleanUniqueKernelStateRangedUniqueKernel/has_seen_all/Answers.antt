use Rattle.std.proofs.Common.{rules}
use Rattle.polars_compute_unique.proofs.boolean.BooleanUniqueKernelStateRangedUniqueKernel.has_seen_all.Goals as goal

pub returns-then-self-2 : goal.returns-then-self-2
returns-then-self-2 c = search rules
