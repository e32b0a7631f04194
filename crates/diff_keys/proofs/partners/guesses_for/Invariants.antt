use Rattle.diff_keys.specs.Found.{AreGuesses}
use Rattle.diff_keys.proofs.partners.guesses_for.Given as goal

abbrev pub invariant-loop-i : goal.invariant-loop-i
invariant-loop-i g l = AreGuesses (g.L.ByteRows.strings l.fn.left) (g.R.ByteRows.strings l.fn.right) l.fn.start l.i l.guesses.items
