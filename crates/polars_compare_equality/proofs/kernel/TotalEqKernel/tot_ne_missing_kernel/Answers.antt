use Rattle.std.proofs.Common.{rules}
use Rattle.polars_compare_equality.proofs.kernel.TotalEqKernel.tot_ne_missing_kernel.Goals as goal

pub join_rows-requires-clause-one_length : goal.join_rows-requires-clause-one_length
join_rows-requires-clause-one_length g c = g.met.Self.TotalEqKernel.comparable_law _ _ c.requires.comparable

pub join_rows-requires-clause-raw : goal.join_rows-requires-clause-raw
join_rows-requires-clause-raw c = search rules
