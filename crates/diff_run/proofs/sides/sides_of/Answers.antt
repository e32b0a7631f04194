use Rattle.std.proofs.lemmas.Result.{err_from_is_err_and}
use Rattle.diff_run.proofs.SideLemmas.{keys_named, named_left, named_right, number_fault, sides_are, sides_fit}
use Rattle.diff_run.proofs.sides.sides_of.Goals as goal

pub returns-clause-sides : goal.returns-clause-sides
returns-clause-sides g c =
    sides_fit c.args.options.now c.args.heads.now c.args.files.left.now c.args.files.right.now c.in_ok-frame.frame c.in_ok-both.both c.in_ok-comparables.comparables c.requires.layout c.in_ok-frame.ensures c.in_ok-both.ensures.left c.in_ok-both.ensures.right
    c.in_ok-comparables.ensures.large

pub returns-clause-texts : goal.returns-clause-texts
returns-clause-texts g c = λ left_text right_text left right heads.
    sides_are c.args.options.now left_text right_text c.args.files.left.now c.args.files.right.now c.args.heads.now c.in_ok-frame.frame c.in_ok-both.both c.in_ok-comparables.comparables heads c.requires.layout c.requires.chosen c.in_ok-frame.ensures
    (c.in_ok-both.ensures.tables left_text right_text left right) (rw c.deref.ensures.value at c.in_ok-comparables.ensures)

pub returns-in_err-both-clause-texts : goal.returns-in_err-both-clause-texts
returns-in_err-both-clause-texts g c =
    let p = err_from_is_err_and c.from_residual-in_err-both.result c.from_residual-in_err-both.ensures.1 in
    rw (p.1, p.2) (λ left_text right_text left right heads. c.in_err-both.ensures.tables left_text right_text left right)

pub compared_by-requires-clause-keys : goal.compared_by-requires-clause-keys
compared_by-requires-clause-keys g c =
    rw c.deref.ensures.value (keys_named c.args.options.now c.args.heads.now c.args.files.left.now c.args.files.right.now c.in_ok-frame.frame c.requires.layout c.in_ok-frame.ensures)

pub compared_by-requires-clause-left : goal.compared_by-requires-clause-left
compared_by-requires-clause-left g c = named_left c.args.options.now c.args.heads.now c.args.files.left.now c.args.files.right.now c.in_ok-frame.frame c.in_ok-both.both.left c.in_ok-frame.ensures c.in_ok-both.ensures.left

pub compared_by-requires-clause-right : goal.compared_by-requires-clause-right
compared_by-requires-clause-right g c =
    named_right c.args.options.now c.args.heads.now c.args.files.left.now c.args.files.right.now c.in_ok-frame.frame c.in_ok-both.both.right c.requires.layout c.in_ok-frame.ensures c.in_ok-both.ensures.right

pub returns-in_err-comparables-clause-texts : goal.returns-in_err-comparables-clause-texts
returns-in_err-comparables-clause-texts g c =
    let p = err_from_is_err_and c.from_residual-in_err-comparables.result c.from_residual-in_err-comparables.ensures.1 in
    rw (p.1, p.2) (λ left_text right_text left right heads.
    number_fault c.args.options.now left_text right_text c.args.files.left.now c.args.files.right.now c.args.heads.now c.in_ok-frame.frame c.in_ok-both.both _ heads c.requires.layout c.in_ok-frame.ensures
    (c.in_ok-both.ensures.tables left_text right_text left right) c.in_err-comparables.ensures)
