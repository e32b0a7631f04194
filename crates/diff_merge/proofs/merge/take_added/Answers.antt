use Rattle.std.proofs.Common.{◌∙◌}
use Rattle.std.proofs.lemmas.Result.{err_from_is_err_and}
use Rattle.diff_merge.proofs.EndLemmas.{right_fault}
use Rattle.diff_merge.proofs.MergeLemmas.{is_there, added_on}
use Rattle.diff_merge.proofs.merge.take_added.Goals as goal

pub row-row-requires : goal.row-row-requires
row-row-requires g c = is_there c.args.right.now.line c.args.right.now.key.items c.requires.lesser.0 c.requires.lesser.1

pub advance-requires : goal.advance-requires
advance-requires g c = is_there c.args.right.now.line c.args.right.now.key.items c.requires.lesser.0 c.requires.lesser.1

pub returns-in_err-added-clause-step : goal.returns-in_err-added-clause-step
returns-in_err-added-clause-step g c =
    let p = err_from_is_err_and c.from_residual.result c.from_residual.ensures.1 in
    rw (p.1, p.2) (λ options left_text right_text n h. tt)

pub returns-in_err-advance-clause-step : goal.returns-in_err-advance-clause-step
returns-in_err-advance-clause-step g c =
    let p = err_from_is_err_and c.from_residual-in_err-advance.result c.from_residual-in_err-advance.ensures.1 in
    rw (p.1, p.2) (λ options left_text right_text n h.
    right_fault options left_text right_text c.args.left.now c.args.right.now c.args.right.now.side _ c.requires.right_side (c.in_err-advance.ensures.on options right_text h.right_rows h.right_at))

pub returns-clause-step : goal.returns-clause-step
returns-clause-step g c = λ options left_text right_text n small h.
    added_on g.L.Read.remaining g.R.Read.remaining g.S.Sink.holds options left_text right_text n small c.args.left.now c.args.left.now c.args.right.now c.advance.new.self c.args.sink.now c.added.new.self c.requires.lesser.0 h
    c.requires.lesser.1 c.requires.lesser.2
    (record { on = c.in_ok-advance.ensures.on; rises = c.in_ok-advance.ensures.rises; alike = c.in_ok-advance.ensures.alike })
    (λ left_rows right_rows before after next held new. rw (← c.row-row.ensures.row) (c.in_ok-added.ensures.told left_rows right_rows before after (c.row-row.ensures.number ∙ next) held new))
