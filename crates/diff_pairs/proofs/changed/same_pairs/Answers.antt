use Rattle.std.proofs.lemmas.Result.{MatchResult-weaker}
use Rattle.diff_pairs.proofs.PairLemmas.{tells_same}
use Rattle.diff_pairs.proofs.changed.same_pairs.Goals as goal

pub returns : goal.returns
returns c =
    MatchResult-weaker c.array_tot_eq_missing_kernel.result c.array_tot_eq_missing_kernel.ensures.trees
    (λ bits same. tells_same c.args.left c.args.right c.in_ok-left.left c.in_ok-right.right c.args.left_rows.items c.args.right_rows.items bits c.requires.one_length c.in_ok-left.ensures c.in_ok-right.ensures same) (λ error memory. memory)
