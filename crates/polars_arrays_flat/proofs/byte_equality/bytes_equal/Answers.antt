use Rattle.polars_arrays_flat.proofs.ByteEquality.{equal_as_far}
use Rattle.polars_arrays_flat.proofs.byte_equality.bytes_equal.Goals as goal

pub returns-then-least-lt8 : goal.returns-then-least-lt8
returns-then-least-lt8 c = equal_as_far c.args.left.now c.args.right.now _ _ c.min-least.ensures c.same_fours.ensures

pub returns-then-least-le16 : goal.returns-then-least-le16
returns-then-least-le16 c = equal_as_far c.args.left.now c.args.right.now _ _ c.min-least.ensures c.same_eights.ensures
