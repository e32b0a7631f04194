use Rattle.polars_arrays_flat.proofs.ByteBlocks.{before, at_end, mask_is}
use Rattle.polars_arrays_flat.proofs.byte_blocks.same_places.Goals as goal

pub returns-clause-same : goal.returns-clause-same
returns-clause-same c = before c.args.left.now c.args.right.now c.requires.left_in c.requires.right_in _ (mask_is c.args.left.now c.args.right.now c.requires.left_in c.requires.right_in)

pub returns-clause-apart : goal.returns-clause-apart
returns-clause-apart c = at_end c.args.left.now c.args.right.now c.requires.left_in c.requires.right_in _ (mask_is c.args.left.now c.args.right.now c.requires.left_in c.requires.right_in)
