use Rattle.std.proofs.Common.{◌≡◌, ◌++◌, take}
use Rattle.std.specs.List.{flat_map}
use Rattle.diff_run.specs.Lines.{pair_at}
use Rattle.diff_run.proofs.lines.push_pairs.Given as goal

abbrev pub invariant-loop-n : goal.invariant-loop-n
invariant-loop-n l = l.out.items ≡ l.fn.out.items ++ flat_map (pair_at l.format l.sides l.comparison.matching) (take l.n l.comparison.changed.items)
