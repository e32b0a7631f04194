use Rattle.std.proofs.Common.{◌≤◌, length}
use Rattle.diff_keys.specs.Chains.{AreChained}
use Rattle.diff_keys.proofs.waiting.all_waiting.Given as goal

abbrev pub invariant-loop-j : goal.invariant-loop-j
invariant-loop-j g l = record {
  within : l.j ≤ length (g.R.ByteRows.strings l.fn.keys);
  chains : AreChained (g.R.ByteRows.strings l.fn.keys) (λ x. l.j ≤ x) l.heads.items l.next.items;
}

abbrev pub decreases-loop-j : goal.decreases-loop-j
decreases-loop-j g l = l.j
