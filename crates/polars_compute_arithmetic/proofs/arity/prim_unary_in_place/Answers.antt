use Rattle.std.proofs.Common.{refl, rules}
use Rattle.std.proofs.lemmas.Slice.Zip.{AllZip-long}
use Rattle.polars_compute_arithmetic.proofs.Zips.{refill-same}
use Rattle.polars_compute_arithmetic.proofs.arity.prim_unary_in_place.Goals as goal

pub returns-clause-mapped : goal.returns-clause-mapped
returns-clause-mapped g c =
    let a = rw c.as_mut_values.ensures.values at c.map_in_place.ensures in
    record {
      values = rw (refill-same c.args.arr.values c.map_in_place.new.values (AllZip-long _ _ _ a)) a;
      nulls = refl;
      bits = search rules;
    }
