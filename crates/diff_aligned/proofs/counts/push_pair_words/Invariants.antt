use Rattle.std.proofs.Common.{◌≡◌, ◌++◌, drop}
use Rattle.std.specs.Prelude.{map}
use Rattle.json.specs.Value.{members_view}
use Rattle.diff_aligned.specs.Counts.{pair_words}
use Rattle.diff_aligned.proofs.counts.push_pair_words.Given as goal

abbrev pub invariant-loop-member : goal.invariant-loop-member
invariant-loop-member l =
    map (λ v. v.items) l.words.items ++ pair_words (members_view (drop l.member-index l.member-items)) ≡ map (λ v. v.items) l.fn.words.items ++ pair_words (members_view l.member-items)
