use Rattle.std.proofs.Common.{◌∙◌}
use Rattle.std.proofs.lemmas.Result.{err_from_is_err_and}
use Rattle.diff_merge.proofs.EndLemmas.{left_fault}
use Rattle.diff_merge.proofs.MergeLemmas.{is_there, removed_on}
use Rattle.diff_merge.proofs.merge.take_removed.Goals as goal

pub row-row-requires : goal.row-row-requires
row-row-requires g c = is_there c.args.left.now.line c.args.left.now.key.items c.requires.lesser.0 c.requires.lesser.1

pub advance-requires : goal.advance-requires
advance-requires g c = is_there c.args.left.now.line c.args.left.now.key.items c.requires.lesser.0 c.requires.lesser.1

pub returns-in_err-removed-clause-step : goal.returns-in_err-removed-clause-step
returns-in_err-removed-clause-step g c =
    let p = err_from_is_err_and c.from_residual.result c.from_residual.ensures.1 in
    rw (p.1, p.2) (λ options left_text right_text n h. tt)

pub returns-in_err-advance-clause-step : goal.returns-in_err-advance-clause-step
returns-in_err-advance-clause-step g c =
    let p = err_from_is_err_and c.from_residual-in_err-advance.result c.from_residual-in_err-advance.ensures.1 in
    rw (p.1, p.2) (λ options left_text right_text n h.
    left_fault options left_text right_text c.args.left.now c.args.right.now c.args.left.now.side _ c.requires.left_side (c.in_err-advance.ensures.on options left_text h.left_rows h.left_at))

pub returns-clause-step : goal.returns-clause-step
returns-clause-step g c = λ options left_text right_text n small h.
    removed_on g.L.Read.remaining g.R.Read.remaining g.S.Sink.holds options left_text right_text n small c.args.left.now c.advance.new.self c.args.right.now c.args.right.now c.args.sink.now c.removed.new.self c.requires.lesser.0 h
    c.requires.lesser.1 c.requires.lesser.2
    (record { on = c.in_ok-advance.ensures.on; rises = c.in_ok-advance.ensures.rises; alike = c.in_ok-advance.ensures.alike })
    (λ left_rows right_rows before after next held gone. rw (← c.row-row.ensures.row) (c.in_ok-removed.ensures.told left_rows right_rows before after (c.row-row.ensures.number ∙ next) held gone))
