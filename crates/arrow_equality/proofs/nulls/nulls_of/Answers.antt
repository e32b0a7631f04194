use Rattle.std.proofs.Common.{arith}
use Rattle.arrow_equality.proofs.NullRows.{nulls-pushed}
use Rattle.arrow_equality.proofs.nulls.nulls_of.Goals as goal

pub loop-i-preserved : goal.loop-i-preserved
loop-i-preserved c =
    rw c.push_reserved.ensures (
      nulls-pushed _ _ _ _ c.loop-i.invariant.0 c.is_null_row.ensures,
      omega (arith, c.loop-i.invariant.1),
    )
