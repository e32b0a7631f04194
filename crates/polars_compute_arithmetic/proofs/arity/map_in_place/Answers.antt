use Rattle.std.proofs.Common.{◌<◌, length, arith}
use Rattle.polars_compute_arithmetic.proofs.Zips.{all_zip_write, same_at, rest_same}
use Rattle.polars_compute_arithmetic.proofs.arity.map_in_place.Goals as goal

pub op-requires : goal.op-requires
op-requires g c =
    let e = same_at c.args.values.now c.loop-value.values c.loop-value.value-index c.value-item.result c.loop-value.invariant.left in
    rw (← e) at (c.requires c.loop-value.value-index c.value-item.result c.loop-value-test.true)

pub loop-value-preserved : goal.loop-value-preserved
loop-value-preserved g c =
    let here : c.loop-value.value-index < length c.loop-value.values = omega arith in
    let e = same_at c.args.values.now c.loop-value.values c.loop-value.value-index c.value-item.result c.loop-value.invariant.left in
    record {
      mapped = all_zip_write _ _ _ _ _ _ _ c.loop-value-test.true here e c.loop-value.invariant.mapped c.op.ensures;
      left = rest_same _ _ _ _ here c.loop-value.invariant.left;
    }
