use Rattle.diff_keys.specs.Found.{AreClasses}
use Rattle.diff_keys.proofs.partners.classes_for.Given as goal

abbrev pub invariant-loop-i : goal.invariant-loop-i
invariant-loop-i g l = AreClasses (g.L.ByteRows.strings l.fn.left) l.fn.count l.fn.start l.i l.classes.items
