use Rattle.polars_tables_operations.proofs.Shown.{answer-bits}
use Rattle.polars_tables_operations.proofs.comparing.answered.Goals as goal

pub unreachable-requires : goal.unreachable-requires
unreachable-requires c =
    let refused = rw c.in_default.is at c.try_new.ensures.made in
    refused (rw c.in_ok-validity.ensures (answer-bits c.args.comparison _ _ _ c.requires.left_bits c.requires.right_bits))
