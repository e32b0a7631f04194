use Rattle.std.proofs.Common.{rules, arith, ◌≡◌, ◌++◌, ◌∙◌, [], sym, ap, subst}
use Rattle.json.specs.Tree.{HasNumbers, MembersHaveNumbers}
use Rattle.json.specs.Value.{members_view, value_view}
use Rattle.diff_aligned.specs.Texts.{pair_text, pairs_after}
use Rattle.diff_lines.specs.PartLaws.{member_numbers}
use Rattle.diff_aligned.proofs.PartLemmas.{all_pairs, pair_written}
use Rattle.diff_aligned.proofs.texts.push_pairs.Goals as goal

pub push_pair-requires : goal.push_pair-requires
push_pair-requires c =
    let xs = c.deref-member-items.result.now in
    let x = c.member-item.result in
    let numbers : MembersHaveNumbers (members_view xs) = subst (λ ys. MembersHaveNumbers (members_view ys)) (sym c.deref-member-items.ensures.value) c.requires in
    let mine : HasNumbers (value_view x.1) = subst (λ y. HasNumbers (value_view y.1)) (sym c.member-item.is) (member_numbers xs c.loop-member.member-index x (omega arith) numbers) in
    search rules

pub loop-member-preserved : goal.loop-member-preserved
loop-member-preserved c =
    let x = c.member-item.result in
    let gapped : c.push_ascii.new.out.items ≡ c.loop-member.out.items ++ c.loop-member.gap.now = search rules in
    let paired : c.push_pair.new.out.items ≡ c.push_ascii.new.out.items ++ pair_text x.0.now (value_view x.1) = search rules in
    pair_written _ _ _ _ _ c.deref-member-items.result.now c.loop-member.member-index x (omega arith) c.member-item.is c.loop-member.invariant gapped paired

pub returns : goal.returns
returns c =
    all_pairs _ _ _ c.deref-member-items.result.now c.loop-member.member-index (omega arith) c.loop-member.invariant
    ∙ ap (λ ms. c.args.out.now.items ++ pairs_after [] (members_view ms)) c.deref-member-items.ensures.value
