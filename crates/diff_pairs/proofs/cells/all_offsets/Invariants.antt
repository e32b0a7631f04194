use Rattle.std.proofs.Common.{◌≡◌, take}
use Rattle.diff_pairs.proofs.cells.all_offsets.Given as goal

abbrev pub invariant-loop-end : goal.invariant-loop-end
invariant-loop-end l = l.ends.items ≡ take l.end-index l.near
