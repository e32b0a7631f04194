use Rattle.std.proofs.Common.{◌≡◌, length}
use Rattle.diff_keys.specs.Found.{HaveFound}
use Rattle.diff_keys.proofs.partners.push_partners.Given as goal

abbrev pub invariant-loop-i : goal.invariant-loop-i
invariant-loop-i g l = record {
  found : HaveFound (g.L.ByteRows.strings l.fn.left) (g.R.ByteRows.strings l.fn.right) l.i l.waiting l.found.items;
  classes : length l.waiting.heads.items ≡ length l.fn.waiting.heads.items;
}
