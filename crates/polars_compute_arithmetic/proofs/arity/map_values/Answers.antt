use Rattle.std.proofs.Common.{rules}
use Rattle.polars_compute_arithmetic.proofs.Zips.{all_zip_more}
use Rattle.polars_compute_arithmetic.proofs.arity.map_values.Goals as goal

pub loop-value-preserved : goal.loop-value-preserved
loop-value-preserved g c = record {
  mapped = rw c.push_reserved.ensures.items (all_zip_more _ _ _ _ _ _ c.loop-value-test.true c.value-item.is c.loop-value.invariant.mapped c.op.ensures);
  so_far = search rules;
  room = search rules;
}
