use Rattle.std.proofs.Common.{◌≡◌, drop}
use Rattle.diff_widths.specs.Cut.{ending, width}
use Rattle.diff_widths.proofs.cut.push_ending.Given as goal

abbrev pub invariant-loop-i : goal.invariant-loop-i
invariant-loop-i l =
    (l.total ≡ width (drop l.i l.text)) × (ending l.room (drop l.i l.text) ≡ ending l.room l.text) × (l.out.items ≡ l.fn.out.items)
