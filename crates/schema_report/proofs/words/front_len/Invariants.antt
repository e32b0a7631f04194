use Rattle.std.proofs.Common.{◌≡◌, ◌≤◌}
use Rattle.schema_report.specs.Words.{front_len}
use Rattle.schema_report.proofs.words.front_len.Given as goal

abbrev pub invariant-loop-len : goal.invariant-loop-len
invariant-loop-len l = (front_len l.bytes l.most ≡ front_len l.bytes l.len) × (l.len ≤ l.most)

abbrev pub decreases-loop-len : goal.decreases-loop-len
decreases-loop-len l = l.len
