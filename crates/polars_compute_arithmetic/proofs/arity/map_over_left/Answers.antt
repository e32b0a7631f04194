use Rattle.std.proofs.Common.{◌<◌, ◌∙◌, length, arith, sym}
use Rattle.polars_compute_arithmetic.proofs.Zips.{all_zip_over, all_zip_end, same_at, rest_same}
use Rattle.polars_compute_arithmetic.proofs.arity.map_over_left.Goals as goal

pub op-requires : goal.op-requires
op-requires g c =
    let e = same_at c.args.left.now c.loop-i.left c.loop-i.i c.index-left-i.result c.loop-i.invariant.left in
    rw (← e, ← c.index-left-i.is, ← c.index-right-i.is) at (c.requires.callable c.loop-i.i c.index-left-i.result c.index-right-i.result c.loop-i-test.true)

pub loop-i-preserved : goal.loop-i-preserved
loop-i-preserved g c =
    let here : c.loop-i.i < length c.loop-i.left = omega arith in
    let e = same_at c.args.left.now c.loop-i.left c.loop-i.i c.index-left-i.result c.loop-i.invariant.left in
    record {
      mapped = all_zip_over _ _ _ _ _ _ _ _ (sym c.requires.same_length) c.loop-i-test.true here (c.index-left-i.is ∙ e) c.index-right-i.is c.loop-i.invariant.mapped c.op.ensures;
      left = rest_same _ _ _ _ here c.loop-i.invariant.left;
    }

pub returns : goal.returns
returns g c =
    all_zip_end _ _ _ _ _ (sym c.requires.same_length) c.loop-i-test.false c.loop-i.auto.left c.loop-i.invariant.mapped
