use Rattle.arrow_columns.proofs.Written.{WritesFirst}
use Rattle.arrow_columns.proofs.writing.write.Given as goal

abbrev pub invariant-loop-i : goal.invariant-loop-i
invariant-loop-i g l =
    WritesFirst g.T.Number.value (g.C.Computed.numbers l.computed) l.i l.out
