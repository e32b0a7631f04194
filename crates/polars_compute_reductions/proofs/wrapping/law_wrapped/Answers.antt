use Rattle.polars_arrays_numbers.specs.WrappingLaws.{wrapped-is, wrapped-only}
use Rattle.polars_compute_reductions.proofs.wrapping.law_wrapped.Goals as goal

pub returns-clause-congruent : goal.returns-clause-congruent
returns-clause-congruent g c n = wrapped-is _ _ _ g.met.T.WrappingNumber.range_law n

pub returns-clause-only : goal.returns-clause-only
returns-clause-only g c n x is = wrapped-only _ _ _ g.met.T.WrappingNumber.range_law n x is
