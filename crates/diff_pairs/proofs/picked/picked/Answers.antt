use Rattle.diff_pairs.proofs.Places.{names}
use Rattle.diff_pairs.proofs.picked.picked.Goals as goal

pub unreachable-requires : goal.unreachable-requires
unreachable-requires c = c.in-Err.ensures.made (record { named = rw (c.from_vec.ensures.stored, c.in_ok-values.ensures.ok) (names _ c.args.rows.items c.requires.within) })
