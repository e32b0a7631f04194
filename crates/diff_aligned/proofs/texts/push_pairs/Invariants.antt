use Rattle.std.proofs.Common.{◌≡◌, ◌++◌, [], drop}
use Rattle.json.specs.Value.{members_view}
use Rattle.diff_aligned.specs.Texts.{pairs_after}
use Rattle.diff_aligned.proofs.texts.push_pairs.Given as goal

abbrev pub invariant-loop-member : goal.invariant-loop-member
invariant-loop-member l = l.out.items ++ pairs_after l.gap (members_view (drop l.member-index l.member-items)) ≡ l.fn.out.items ++ pairs_after [] (members_view l.member-items)
