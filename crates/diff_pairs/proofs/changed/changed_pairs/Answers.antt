use Rattle.std.proofs.lemmas.Result.{MatchResult-weaker}
use Rattle.diff_pairs.proofs.PairLemmas.{lists_changed}
use Rattle.diff_pairs.proofs.changed.changed_pairs.Goals as goal

pub returns : goal.returns
returns c =
    MatchResult-weaker c.unset_places.result c.unset_places.ensures
    (λ places told. lists_changed c.args.left c.args.right c.args.left_rows.items c.args.right_rows.items c.in_ok-same.same places.items c.in_ok-same.ensures told) (λ error memory. memory)
