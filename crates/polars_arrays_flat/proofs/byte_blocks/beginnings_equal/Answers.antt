use Rattle.polars_arrays_flat.proofs.ByteBlocks.{block_equal}
use Rattle.polars_arrays_flat.proofs.byte_blocks.beginnings_equal.Goals as goal

pub returns-then-in_blocks : goal.returns-then-in_blocks
returns-then-in_blocks c =
    let fits = c.in_blocks.ensures c.if-in_blocks.true in
    block_equal _ c.args.n c.args.m c.args.left.now c.args.right.now fits.0 fits.1 c.requires.left_in c.requires.right_in
    (record { same = c.same_places.ensures.same; apart = c.same_places.ensures.apart })
