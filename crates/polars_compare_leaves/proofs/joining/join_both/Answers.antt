use Rattle.std.proofs.Common.{true, false}
use Rattle.std.proofs.lemmas.Result.{MatchResult-weaker}
use Rattle.polars_arrays_bits.specs.Logic.{merged_eq, merged_ne}
use Rattle.polars_compare_leaves.proofs.JoinedBits.{joined-both, merged_eq-joins, merged_ne-joins}
use Rattle.polars_compare_leaves.proofs.joining.join_both.Goals as goal

pub returns-in-Equal : goal.returns-in-Equal
returns-in-Equal g c =
    MatchResult-weaker c.merge_eq.result c.merge_eq.ensures
    (λ bits e.
    rw c.in-Equal.is
    (joined-both true (g.R.RawValues.values c.args.raw) merged_eq merged_eq-joins c.args.left.now c.args.right.now bits c.requires.left c.requires.right e))
    (λ error m. m)

pub returns-in-Unequal : goal.returns-in-Unequal
returns-in-Unequal g c =
    MatchResult-weaker c.merge_ne.result c.merge_ne.ensures
    (λ bits e.
    rw c.in-Unequal.is
    (joined-both false (g.R.RawValues.values c.args.raw) merged_ne merged_ne-joins c.args.left.now c.args.right.now bits c.requires.left c.requires.right e))
    (λ error m. m)
