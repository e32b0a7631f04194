use Rattle.std.proofs.Common.{rules}
use Rattle.std.proofs.lemmas.Slice.Zip.{AllZip-long}
use Rattle.polars_compute_arithmetic.proofs.arity.new_values.Goals as goal

pub with_validity-requires-after_bounds : goal.with_validity-requires-after_bounds
with_validity-requires-after_bounds g c κs within =
    let e = rw c.values.ensures at (AllZip-long _ _ _ c.in_ok-values.ensures) in
    rw (c.from_vec.ensures.stored, e) c.take_validity.ensures.bits

pub returns-clause-owned : goal.returns-clause-owned
returns-clause-owned g c = search rules
