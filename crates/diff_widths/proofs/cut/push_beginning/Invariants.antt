use Rattle.std.proofs.Common.{◌≡◌, ◌++◌, drop}
use Rattle.diff_widths.specs.Cut.{beginning}
use Rattle.diff_widths.proofs.cut.push_beginning.Given as goal

abbrev pub invariant-loop-c : goal.invariant-loop-c
invariant-loop-c l = l.out.items ++ beginning l.left (drop l.c-index l.text) ≡ l.fn.out.items ++ beginning l.fn.room l.text
