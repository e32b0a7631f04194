use Rattle.std.proofs.Common.{◌≡◌, sym}
use Rattle.diff_merge.specs.Cursors.{next_key}
use Rattle.diff_merge.specs.Merging.{IsStep}
use Rattle.diff_merge.proofs.EndLemmas.{alike_self, waits}
use Rattle.diff_merge.proofs.merge.take_step.Goals as goal

pub take_pair-requires-clause-one_key : goal.take_pair-requires-clause-one_key
take_pair-requires-clause-one_key g c = rw c.in-Pair.is at c.next_step.ensures

pub take_removed-requires-clause-lesser : goal.take_removed-requires-clause-lesser
take_removed-requires-clause-lesser g c = rw c.in-Removed.is at c.next_step.ensures

pub take_added-requires-clause-lesser : goal.take_added-requires-clause-lesser
take_added-requires-clause-lesser g c = rw c.in-Added.is at c.next_step.ensures

pub returns-in-End : goal.returns-in-End
returns-in-End g c = record {
  step = λ options left_text right_text n small h. waits g.L.Read.remaining g.R.Read.remaining g.S.Sink.holds options left_text right_text n c.args.left.now c.args.right.now c.args.sink.now h;
  kept = g.S.Sink.keeps_self c.args.sink.now;
  left_alike = alike_self c.args.left.now;
  right_alike = alike_self c.args.right.now;
  end = λ e. rw c.in-End.is at c.next_step.ensures;
}
