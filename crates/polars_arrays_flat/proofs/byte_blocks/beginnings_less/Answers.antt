use Rattle.polars_arrays_flat.proofs.ByteBlocks.{block_less}
use Rattle.polars_arrays_flat.proofs.byte_blocks.beginnings_less.Goals as goal

pub returns-then-in_blocks : goal.returns-then-in_blocks
returns-then-in_blocks c =
    let fits = c.in_blocks.ensures c.if-in_blocks.true in
    block_less _ c.args.n c.args.m _ _ c.args.left.now c.args.right.now fits.0 fits.1 c.requires.left_in c.requires.right_in c.min-common.ensures c.min-place.ensures
    (record { same = c.same_places-k.ensures.same; apart = c.same_places-k.ensures.apart })
