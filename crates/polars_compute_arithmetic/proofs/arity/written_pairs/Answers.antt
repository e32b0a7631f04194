use Rattle.std.proofs.Common.{◌∙◌, sym}
use Rattle.polars_compute_arithmetic.proofs.Joined.{length-pairs}
use Rattle.polars_compute_arithmetic.proofs.Zips.{refill-same}
use Rattle.polars_compute_arithmetic.proofs.arity.written_pairs.Goals as goal

pub returns-then-is_owned-clause-mapped : goal.returns-then-is_owned-clause-mapped
returns-then-is_owned-clause-mapped g c =
    let a = rw (c.as_mut_values.ensures.values, c.values.ensures) at c.map_over_left.ensures in
    rw (refill-same c.args.lhs.values c.map_over_left.new.left (length-pairs _ _ _ _ (sym c.requires.same_length) a)) a

pub returns-else-is_owned-clause-mapped : goal.returns-else-is_owned-clause-mapped
returns-else-is_owned-clause-mapped g c =
    let a = rw (c.as_mut_values-else-is_owned.ensures.values, c.values-else-is_owned.ensures) at c.map_over_right.ensures in
    rw (refill-same c.args.rhs.values c.map_over_right.new.right (length-pairs _ _ _ _ (sym c.requires.same_length) a ∙ c.requires.same_length)) a
