use Rattle.std.proofs.Common.{◌∙◌}
use Rattle.std.proofs.lemmas.Result.{err_from_is_err_and}
use Rattle.diff_merge.proofs.EndLemmas.{left_fault, right_fault}
use Rattle.diff_merge.proofs.MergeLemmas.{is_there, pair_on}
use Rattle.diff_merge.proofs.merge.take_pair.Goals as goal

pub row-left_row-requires : goal.row-left_row-requires
row-left_row-requires g c = is_there c.args.left.now.line c.args.left.now.key.items c.requires.one_key.0 c.requires.one_key.1

pub row-right_row-requires : goal.row-right_row-requires
row-right_row-requires g c = is_there c.args.right.now.line c.args.right.now.key.items c.requires.one_key.0 c.requires.one_key.2

pub advance-requires : goal.advance-requires
advance-requires g c = is_there c.args.left.now.line c.args.left.now.key.items c.requires.one_key.0 c.requires.one_key.1

pub advance-requires-2 : goal.advance-requires-2
advance-requires-2 g c = is_there c.args.right.now.line c.args.right.now.key.items c.requires.one_key.0 c.requires.one_key.2

pub returns-in_err-pair-clause-step : goal.returns-in_err-pair-clause-step
returns-in_err-pair-clause-step g c =
    let p = err_from_is_err_and c.from_residual.result c.from_residual.ensures.1 in
    rw (p.1, p.2) (λ options left_text right_text n h. tt)

pub returns-in_err-advance-clause-step : goal.returns-in_err-advance-clause-step
returns-in_err-advance-clause-step g c =
    let p = err_from_is_err_and c.from_residual-in_err-advance.result c.from_residual-in_err-advance.ensures.1 in
    rw (p.1, p.2) (λ options left_text right_text n h.
    left_fault options left_text right_text c.args.left.now c.args.right.now c.args.left.now.side _ c.requires.left_side (c.in_err-advance.ensures.on options left_text h.left_rows h.left_at))

pub returns-in_err-advance-2-clause-step : goal.returns-in_err-advance-2-clause-step
returns-in_err-advance-2-clause-step g c =
    let p = err_from_is_err_and c.from_residual-in_err-advance-2.result c.from_residual-in_err-advance-2.ensures.1 in
    rw (p.1, p.2) (λ options left_text right_text n h.
    right_fault options left_text right_text c.args.left.now c.args.right.now c.args.right.now.side _ c.requires.right_side (c.in_err-advance-2.ensures.on options right_text h.right_rows h.right_at))

pub returns-clause-step : goal.returns-clause-step
returns-clause-step g c = λ options left_text right_text n small h.
    pair_on g.L.Read.remaining g.R.Read.remaining g.S.Sink.holds options left_text right_text n small c.args.left.now c.advance.new.self c.args.right.now c.advance-2.new.self c.args.sink.now c.pair.new.self c.requires.one_key.0 h
    c.requires.one_key.1 c.requires.one_key.2
    (record { on = c.in_ok-advance.ensures.on; rises = c.in_ok-advance.ensures.rises; alike = c.in_ok-advance.ensures.alike })
    (record { on = c.in_ok-advance-2.ensures.on; rises = c.in_ok-advance-2.ensures.rises; alike = c.in_ok-advance-2.ensures.alike })
    (λ left_rows right_rows before after left_next right_next held pair.
    rw (← c.row-left_row.ensures.row, ← c.row-right_row.ensures.row)
    (c.in_ok-pair.ensures.told left_rows right_rows before after (c.row-left_row.ensures.number ∙ left_next) (c.row-right_row.ensures.number ∙ right_next) held pair))
