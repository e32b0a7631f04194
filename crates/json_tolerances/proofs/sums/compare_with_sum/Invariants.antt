use Rattle.std.proofs.Common.{◌≡◌, ◌+◌, ◌*◌, ◌/◌, ◌^◌, ◌≤◌}
use Rattle.json_tolerances.proofs.sums.compare_with_sum.Given as goal

abbrev pub invariant-loop-place : goal.invariant-loop-place
invariant-loop-place l = record {
  balance : l.by_x * (l.x / 10 ^ l.place) + l.under ≡ l.by_y * (l.y / 10 ^ l.place) + l.by_z * (l.z / 10 ^ l.place) + l.over;
  over : l.over ≤ l.by_y + l.by_z;
  under : l.under ≤ l.by_x;
}

abbrev pub decreases-loop-place : goal.decreases-loop-place
decreases-loop-place l = l.place
