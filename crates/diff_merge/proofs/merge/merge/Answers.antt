use Rattle.std.proofs.Common.{◌∙◌, ◌+◌, arith}
use Rattle.std.proofs.lemmas.Result.{err_from_is_err_and}
use Rattle.diff_merge.proofs.EndLemmas.{alike_on, alike_self, fault_alike, merge_begin, merge_end}
use Rattle.diff_merge.proofs.merge.merge.Goals as goal

pub loop-number-init : goal.loop-number-init
loop-number-init g c = record {
  at = λ options left_text right_text la ra held. merge_begin g.L.Read.remaining g.R.Read.remaining g.S.Sink.holds options left_text right_text c.args.left.now c.args.right.now c.args.sink.now la ra held;
  left_alike = alike_self c.args.left.now;
  right_alike = alike_self c.args.right.now;
  kept = g.S.Sink.keeps_self c.args.sink.now;
}

pub take_step-requires : goal.take_step-requires
take_step-requires g c = record {
  left_side = c.loop-number.invariant.left_alike.side ∙ c.requires.left_side;
  right_side = c.loop-number.invariant.right_alike.side ∙ c.requires.right_side;
}

pub returns-in_err-take_step-clause-merged : goal.returns-in_err-take_step-clause-merged
returns-in_err-take_step-clause-merged g c =
    let before = c.loop-number.invariant in
    let p = err_from_is_err_and c.from_residual.result c.from_residual.ensures.1 in
    rw (p.1, p.2) (λ options left_text right_text la ra held.
    fault_alike options left_text right_text c.args.left.now c.loop-number.left c.args.right.now c.loop-number.right _ before.left_alike before.right_alike
    (c.in_err-take_step.ensures.step options left_text right_text c.loop-number.number (before.at options left_text right_text la ra held)))

pub returns-then-not-branch-clause-kept : goal.returns-then-not-branch-clause-kept
returns-then-not-branch-clause-kept g c = g.S.Sink.keeps_on c.args.sink.now c.loop-number.sink c.take_step.new.sink c.loop-number.invariant.kept c.in_ok-take_step.ensures.kept

pub returns-then-not-branch-clause-merged : goal.returns-then-not-branch-clause-merged
returns-then-not-branch-clause-merged g c = λ options left_text right_text la ra held.
    let before = c.loop-number.invariant in
    let end = c.in_ok-take_step.ensures.end c.if-not-branch.true in
    merge_end g.L.Read.remaining g.R.Read.remaining g.S.Sink.holds options left_text right_text (c.loop-number.number + 1) c.args.left.now c.take_step.new.left c.args.right.now c.take_step.new.right c.take_step.new.sink
    (alike_on c.args.left.now c.loop-number.left c.take_step.new.left before.left_alike c.in_ok-take_step.ensures.left_alike)
    (alike_on c.args.right.now c.loop-number.right c.take_step.new.right before.right_alike c.in_ok-take_step.ensures.right_alike) end.0 end.1
    (c.in_ok-take_step.ensures.step options left_text right_text c.loop-number.number (omega arith) (before.at options left_text right_text la ra held))

pub loop-number-preserved : goal.loop-number-preserved
loop-number-preserved g c =
    let before = c.loop-number.invariant in
    record {
      at = λ options left_text right_text la ra held. c.in_ok-take_step.ensures.step options left_text right_text c.loop-number.number (omega arith) (before.at options left_text right_text la ra held);
      left_alike = alike_on c.args.left.now c.loop-number.left c.take_step.new.left before.left_alike c.in_ok-take_step.ensures.left_alike;
      right_alike = alike_on c.args.right.now c.loop-number.right c.take_step.new.right before.right_alike c.in_ok-take_step.ensures.right_alike;
      kept = g.S.Sink.keeps_on c.args.sink.now c.loop-number.sink c.take_step.new.sink before.kept c.in_ok-take_step.ensures.kept;
    }
