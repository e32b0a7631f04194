use Rattle.diff_pairs.proofs.HeldLemmas.{holds_near}
use Rattle.diff_pairs.proofs.cells.near_array.Goals as goal

pub returns : goal.returns
returns c = rw c.in_ok-copy.ensures (holds_near c.args.array.now c.requires)
