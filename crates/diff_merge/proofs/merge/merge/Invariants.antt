use Rattle.diff_merge.proofs.EndLemmas.{IsMergeProgress}
use Rattle.diff_merge.proofs.merge.merge.Given as goal

abbrev pub invariant-loop-number : goal.invariant-loop-number
invariant-loop-number g l = IsMergeProgress g.L.Read.remaining g.R.Read.remaining g.S.Sink.holds g.S.Sink.keeps l.fn.left l.left l.fn.right l.right l.fn.sink l.sink l.number
