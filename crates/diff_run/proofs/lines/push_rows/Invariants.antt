use Rattle.std.proofs.Common.{◌≡◌, ◌++◌, take}
use Rattle.std.specs.List.{flat_map}
use Rattle.diff_report.specs.Sides.{naming_of}
use Rattle.diff_run.specs.Lines.{row_alone}
use Rattle.diff_run.proofs.lines.push_rows.Given as goal

abbrev pub invariant-loop-n : goal.invariant-loop-n
invariant-loop-n l = l.out.items ≡ l.fn.out.items ++ flat_map (row_alone l.format l.alone (naming_of l.sides) l.side) (take l.n l.rows)
