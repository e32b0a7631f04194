use Rattle.std.proofs.Common.{◌≤◌, ◌-◌, length}
use Rattle.diff_keys.specs.Found.{HaveFound}
use Rattle.diff_keys.proofs.partners.push_all.Given as goal

abbrev pub invariant-loop-start : goal.invariant-loop-start
invariant-loop-start g l = record {
  within : l.start ≤ length (g.L.ByteRows.strings l.fn.left);
  found : HaveFound (g.L.ByteRows.strings l.fn.left) (g.R.ByteRows.strings l.fn.right) l.start l.waiting l.found.items;
}

abbrev pub decreases-loop-start : goal.decreases-loop-start
decreases-loop-start g l = length (g.L.ByteRows.strings l.fn.left) - l.start
