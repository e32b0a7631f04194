use Rattle.std.proofs.Common.{◌≡◌, ◌-◌, ℕ, length}
use Rattle.diff_keys.specs.Chains.{AreWaiting, Waits}
use Rattle.diff_keys.specs.Partners.{Keys}
use Rattle.diff_keys.proofs.ChainLemmas.{IsBehind}
use Rattle.diff_keys.proofs.waiting.Waiting.take_behind.Given as goal

abbrev pub invariant-loop-row : goal.invariant-loop-row
invariant-loop-row g l = record {
  heads : l.self.heads ≡ l.fn.self.heads;
  next : l.self.next ≡ l.fn.self.next;
  behind : (left : Keys) (i : ℕ) → AreWaiting left (g.R.ByteRows.strings l.fn.keys) i l.fn.self → IsBehind (g.R.ByteRows.strings l.fn.keys) (Waits left (g.R.ByteRows.strings l.fn.keys) i) l.fn.key (length l.fn.self.heads.items) l.before;
}

abbrev pub decreases-loop-row : goal.decreases-loop-row
decreases-loop-row g l = length (g.R.ByteRows.strings l.fn.keys) - l.before
