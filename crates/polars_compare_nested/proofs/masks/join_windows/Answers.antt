use Rattle.std.proofs.Common.{length}
use Rattle.std.proofs.lemmas.Result.{MatchResult-weaker}
use Rattle.polars_compare_nested.proofs.JoinedWindows.{joined_windows, unmasked_windows}
use Rattle.polars_compare_nested.proofs.masks.join_windows.Goals as goal

pub returns-then-not-may_have_nulls-2 : goal.returns-then-not-may_have_nulls-2
returns-then-not-may_have_nulls-2 c =
    λ agree told.
    unmasked_windows agree c.args.left.now c.args.right.now c.args.a c.args.b (length c.args.raw) c.args.raw c.requires.left_good c.requires.right_good c.requires.left_in c.requires.right_in
    (c.may_have_nulls.ensures c.if-not-may_have_nulls.true)
    (c.may_have_nulls-then-not-may_have_nulls.ensures c.if-not-may_have_nulls-2.true)
    told

pub returns : goal.returns
returns c =
    MatchResult-weaker c.join_masks.result (rw (c.bits.ensures, c.bits-2.ensures, c.in_ok-left_mask.ensures.mask, c.in_ok-right_mask.ensures.mask, c.len-n.ensures) at c.join_masks.ensures)
    (λ bits joins agree told.
    joined_windows agree c.args.left.now c.args.right.now c.args.a c.args.b (length c.args.raw) c.args.raw bits c.requires.left_good c.requires.right_good c.requires.one_type c.requires.left_in c.requires.right_in joins told)
    (λ e memory. memory)
