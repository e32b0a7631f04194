use Rattle.std.proofs.Common.{◌<◌, ◌∙◌, length, arith, sym}
use Rattle.polars_compute_arithmetic.proofs.Zips.{all_zip_over, all_zip_end, same_at, rest_same}
use Rattle.polars_compute_arithmetic.proofs.arity.map_over_right.Goals as goal

pub op-requires : goal.op-requires
op-requires g c =
    let here : c.loop-i.i < length c.args.left.now = omega arith in
    let e = same_at c.args.right.now c.loop-i.right c.loop-i.i c.index-right-i.result c.loop-i.invariant.left in
    rw (← e, ← c.index-left-i.is, ← c.index-right-i.is) at (c.requires.callable c.loop-i.i c.index-left-i.result c.index-right-i.result here)

pub loop-i-preserved : goal.loop-i-preserved
loop-i-preserved g c =
    let here : c.loop-i.i < length c.args.left.now = omega arith in
    let there : c.loop-i.i < length c.loop-i.right = omega arith in
    let e = same_at c.args.right.now c.loop-i.right c.loop-i.i c.index-right-i.result c.loop-i.invariant.left in
    record {
      mapped = all_zip_over _ _ _ _ _ _ _ _ (sym c.requires.same_length) here there c.index-left-i.is (c.index-right-i.is ∙ e) c.loop-i.invariant.mapped c.op.ensures;
      left = rest_same _ _ _ _ there c.loop-i.invariant.left;
    }

pub returns : goal.returns
returns g c =
    all_zip_end _ _ _ _ _ (sym c.requires.same_length) (omega arith) (omega arith) c.loop-i.invariant.mapped
