use Rattle.std.proofs.Common.{◌≡◌, ◌+◌, drop}
use Rattle.diff_widths.specs.Cut.{width}
use Rattle.diff_widths.proofs.cut.width_of.Given as goal

abbrev pub invariant-loop-c : goal.invariant-loop-c
invariant-loop-c l = l.total + width (drop l.c-index l.text) ≡ width l.text
