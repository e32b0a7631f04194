use Rattle.diff_pairs.proofs.HeldLemmas.{holds_far}
use Rattle.diff_pairs.proofs.cells.far_array.Goals as goal

pub returns : goal.returns
returns c = rw c.in_ok-copy.ensures (holds_far c.args.array.now c.requires)
