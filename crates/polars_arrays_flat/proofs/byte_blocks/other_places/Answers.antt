use Rattle.polars_arrays_flat.proofs.ByteBlocks.{same_bit, mask_is}
use Rattle.polars_arrays_flat.proofs.byte_blocks.other_places.Goals as goal

pub returns : goal.returns
returns c = same_bit c.args.left.now c.args.right.now c.requires.left_in c.requires.right_in _ (mask_is c.args.left.now c.args.right.now c.requires.left_in c.requires.right_in)
