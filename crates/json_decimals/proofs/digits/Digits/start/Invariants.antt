use Rattle.std.proofs.Common.{◌≡◌, ◌-◌, ◌<◌, ◌≤◌, ℕ, length, slice_index}
use Rattle.json_decimals.proofs.digits.Digits.start.Given as goal

abbrev pub invariant-loop-n : goal.invariant-loop-n
invariant-loop-n l = (l.n ≤ length l.self) × ((k : ℕ) → k < l.n → slice_index l.self k ≡ 48)

abbrev pub decreases-loop-n : goal.decreases-loop-n
decreases-loop-n l = length l.self - l.n
