use Rattle.std.proofs.lemmas.Result.{MatchResult-weaker}
use Rattle.polars_compare_equality.proofs.Missing.{missing-from-raw}
use Rattle.polars_compare_equality.proofs.joining.join_rows.Goals as goal

pub returns : goal.returns
returns g c =
    MatchResult-weaker c.join_masks.result c.join_masks.ensures
    (λ bits j.
    let joined = rw (c.bits.ensures, c.bits-2.ensures, c.in_ok-left_mask.ensures.mask, c.in_ok-right_mask.ensures.mask) at j in
    missing-from-raw _ _ _ _ _ _ _ _ bits c.in_ok-left_mask.ensures.bits c.in_ok-right_mask.ensures.bits
    c.requires.one_length
    (g.met.A.Array.null_law c.args.left.now c.args.right.now)
    (g.met.A.Array.null_law c.args.right.now c.args.left.now)
    c.requires.raw joined)
    (λ error m. m)
