use Rattle.std.proofs.Common.{◌≡◌, ◌++◌, ◌≤◌, slice_range}
use Rattle.json_decimals.proofs.digits.Digits.push.Given as goal

abbrev pub invariant-loop-i : goal.invariant-loop-i
invariant-loop-i l = (l.from ≤ l.i) × (l.out.items ≡ l.initial.out.items ++ slice_range l.self l.from l.i)
