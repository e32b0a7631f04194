use Rattle.std.proofs.Common.{◌≡◌, List, ◌∙◌, subst, take, arith, rules, Global}
use Rattle.std.specs.Prelude.{map}
use Rattle.std.specs.List.Sorted.{IsPermutation}
use Rattle.std.proofs.lemmas.List.Sorted.{IsPermutation-map, answers_always}
use Rattle.std.proofs.lemmas.List.{take_all}
use Rattle.json_normal.proofs.SortedLemmas.{sorted_is, Ref, Pair}
use Rattle.json_normal.proofs.order.in_key_order.Goals as goal

pub returns-clause-moved : goal.returns-clause-moved
returns-clause-moved c =
    let new : List (Ref Global) = c.sort_by_key.new.self.items in
    let all : take c.loop-member.member-index c.deref-member-items.result.now ≡ c.deref-member-items.result.now = take_all _ _ (omega arith) in
    let same : map (λ m. m.now) c.loop-member.order.items ≡ c.args.members.now.items = c.loop-member.invariant.0 ∙ all ∙ c.deref-member-items.ensures.value in
    subst (λ (xs : List (Pair Global)). IsPermutation xs (map (λ m. m.now) new)) same (IsPermutation-map (λ m. m.now) _ _ c.sort_by_key.ensures.permutation)

pub returns-clause-ordered : goal.returns-clause-ordered
returns-clause-ordered c =
    let new : List (Ref Global) = c.sort_by_key.new.self.items in
    sorted_is c.args.members.now.items new (returns-clause-moved c) (λ k d h g. c.in_ok-sort_by_key.ensures.sorted (λ m. m.now.0) (answers_always _ _ _ (λ f a r q k. search rules)) k d h g) c.requires
