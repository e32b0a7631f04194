use Rattle.std.proofs.Common.{◌≡◌, arith, refl}
use Rattle.polars_compute_reductions.proofs.CommonBits.{common_more}
use Rattle.polars_compute_reductions.proofs.fold.common_bits.Goals as goal

pub loop-k-preserved : goal.loop-k-preserved
loop-k-preserved c p lt e =
    common_more c.args.mask.now c.loop-k.common c.word-common.result _ c.loop-k.k p refl c.word-common.ensures c.loop-k.invariant lt e

pub returns : goal.returns
returns c p lt e =
    let done : c.loop-k.k ≡ 32 = omega (arith, c.loop-k-test.false) in
    c.loop-k.invariant p (omega (arith, done)) e
