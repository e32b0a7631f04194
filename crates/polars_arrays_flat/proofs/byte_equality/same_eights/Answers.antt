use Rattle.std.specs.Int.{w64, from_le_bytes, to_le_bytes}
use Rattle.polars_arrays_flat.proofs.ByteEquality.{one_number, both_ends}
use Rattle.polars_arrays_flat.proofs.byte_equality.same_eights.Goals as goal

pub returns : goal.returns
returns c =
    both_ends 8 c.args.n c.args.left.now c.args.right.now _ _ c.requires.some c.requires.few c.requires.left_in c.requires.right_in
    (one_number (from_le_bytes w64) (to_le_bytes w64) _ _ _ _ c.eight_at.ensures.number c.eight_at-2.ensures.number c.eight_at.ensures.bytes c.eight_at-2.ensures.bytes)
    (one_number (from_le_bytes w64) (to_le_bytes w64) _ _ _ _ c.eight_at-3.ensures.number c.eight_at-4.ensures.number c.eight_at-3.ensures.bytes c.eight_at-4.ensures.bytes)
