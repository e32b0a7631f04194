use Rattle.std.proofs.Common.{length, map, ◌-◌, ◌≤◌}
use Rattle.json_paths.specs.PatternViews.{pattern_step_view}
use Rattle.json_paths.specs.Reading.{Begins, left_at}
use Rattle.json_paths.specs.Texts.{with_dot}
use Rattle.json_paths.proofs.parse.parse_pattern.Given as goal

-- the steps so far are the first that the text writes
abbrev pub invariant-loop-end : goal.invariant-loop-end
invariant-loop-end l = record {
  within : l.end ≤ length l.text;
  begins : Begins (with_dot l.text) (map pattern_step_view l.steps.items) (left_at l.text l.end);
}

abbrev pub decreases-loop-end : goal.decreases-loop-end
decreases-loop-end l = length l.text - l.end
