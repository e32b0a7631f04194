use Rattle.std.proofs.Common.{rules, arith, ◌≡◌, ◌++◌, ◌∷◌, [], ◌∙◌, sym, ap, subst}
use Rattle.std.specs.Prelude.{map}
use Rattle.json.specs.Tree.{HasNumbers, MembersHaveNumbers}
use Rattle.json.specs.Value.{members_view, value_view}
use Rattle.diff_aligned.specs.Counts.{pair_words}
use Rattle.diff_aligned.specs.Texts.{pair_text}
use Rattle.diff_lines.specs.PartLaws.{member_numbers}
use Rattle.diff_aligned.proofs.PartLemmas.{all_pair_words, pair_word_written}
use Rattle.diff_aligned.proofs.counts.push_pair_words.Goals as goal

pub push_pair_word-requires : goal.push_pair_word-requires
push_pair_word-requires c =
    let xs = c.deref-member-items.result.now in
    let x = c.member-item.result in
    let numbers : MembersHaveNumbers (members_view xs) = subst (λ ys. MembersHaveNumbers (members_view ys)) (sym c.deref-member-items.ensures.value) c.requires in
    let mine : HasNumbers (value_view x.1) = subst (λ y. HasNumbers (value_view y.1)) (sym c.member-item.is) (member_numbers xs c.loop-member.member-index x (omega arith) numbers) in
    search rules

pub loop-member-preserved : goal.loop-member-preserved
loop-member-preserved c =
    let x = c.member-item.result in
    let written : map (λ v. v.items) c.push_pair_word.new.words.items ≡ map (λ v. v.items) c.loop-member.words.items ++ pair_text x.0.now (value_view x.1) ∷ [] = search rules in
    pair_word_written _ _ _ c.deref-member-items.result.now c.loop-member.member-index x (omega arith) c.member-item.is c.loop-member.invariant written

pub returns : goal.returns
returns c =
    all_pair_words _ _ c.deref-member-items.result.now c.loop-member.member-index (omega arith) c.loop-member.invariant
    ∙ ap (λ ms. map (λ v. v.items) c.args.words.now.items ++ pair_words (members_view ms)) c.deref-member-items.ensures.value
