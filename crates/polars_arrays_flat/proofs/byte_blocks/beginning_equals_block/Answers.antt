use Rattle.polars_arrays_flat.proofs.ByteBlocks.{selected_equal}
use Rattle.polars_arrays_flat.proofs.byte_blocks.beginning_equals_block.Goals as goal

pub returns-then-left-ge-BLOCK_BYTES : goal.returns-then-left-ge-BLOCK_BYTES
returns-then-left-ge-BLOCK_BYTES c =
    selected_equal _ c.args.m c.args.inside c.requires.inside c.args.n c.args.left.now c.args.block.now c.requires.left_in c.requires.block_in c.requires.few c.other_places.ensures
