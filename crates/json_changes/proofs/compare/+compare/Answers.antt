use Rattle.std.proofs.Common.{◌≡◌, ◌+◌, ◌<◌, ◌++◌, ℕ, List, [], ◌∷◌, suc, drop, length, map, IfSome, ap, sym, ◌∙◌, subst, arith, rules, Global}
use Rattle.json.proofs.Trees.{item_smaller}
use Rattle.json.specs.Find.{get_member}
use Rattle.json.specs.Json.{Json, array, object}
use Rattle.json.specs.Tree.{HasNumbers, json_tokens, items_tokens, members_tokens}
use Rattle.json.specs.Value.{value_view, items_view, members_view}
use Rattle.json.specs.declared.value.Value.{Value}
use Rattle.json_normal.specs.Narrow.{HasNarrowNumbers}
use Rattle.json_paths.specs.Paths.{name, place}
use Rattle.json_paths.specs.declared.path.Step as declared
use Rattle.json_changes.specs.Differences.{Difference, alone_items, beside, differences, inside, item_differences, member_differences, only_left, only_right}
use Rattle.json_changes.specs.Errors.{IsFaultOf}
use Rattle.json_changes.specs.Names.{seen}
use Rattle.json_changes.specs.Texts.{change_view, rules_view, told_at, trail_view}
use Rattle.json_changes.proofs.FoundLemmas.{fault_found, fault_within, if_seen, numbers_found}
use Rattle.json_changes.proofs.PartLemmas.{Pair, items_end, items_step, member_narrow_at, member_numbers_at, members_step, narrow_at, numbers_at, two_smaller}
use Rattle.json_changes.proofs.TableLemmas.{found_at}
use Rattle.json_changes.proofs.TextLemmas.{cut, stepped, told_deep, twice}
use Rattle.json_changes.proofs.compare.+compare.Goals as goal

pub compare_items-compare-requires : goal.compare_items-compare-requires
compare_items-compare-requires t c =
    let xs = c.args.own.now.items in
    let ys = c.args.other.now.items in
    let i = c.loop-i.i in
    let x = c.index.result.now in
    let y = c.index-in-loop-i.result.now in
    let left_numbers : HasNumbers (value_view x) = subst (λ (v : Value Global). HasNumbers (value_view v)) (sym c.index.ensures) (numbers_at xs i x (omega arith) c.requires.left_numbers) in
    let right_numbers : HasNumbers (value_view y) = subst (λ (v : Value Global). HasNumbers (value_view v)) (sym c.index-in-loop-i.ensures) (numbers_at ys i y (omega arith) c.requires.right_numbers) in
    let smaller : length (json_tokens (value_view x)) < length (items_tokens (items_view xs)) =
    subst (λ (v : Value Global). length (json_tokens (value_view v)) < length (items_tokens (items_view xs))) (sym c.index.ensures) (item_smaller xs i x (omega arith)) in
    search rules

pub compare_items-returns-in_err-compare-clause-fault : goal.compare_items-returns-in_err-compare-clause-fault
compare_items-returns-in_err-compare-clause-fault t c =
    let xs = c.args.own.now.items in
    let ys = c.args.other.now.items in
    let i = c.loop-i.i in
    let x = c.index.result.now in
    let y = c.index-in-loop-i.result.now in
    let left : HasNarrowNumbers (array (items_view xs)) → HasNarrowNumbers (value_view x) = λ h. subst (λ (v : Value Global). HasNarrowNumbers (value_view v)) (sym c.index.ensures) (narrow_at xs i x (omega arith) h) in
    let right : HasNarrowNumbers (array (items_view ys)) → HasNarrowNumbers (value_view y) = λ h. subst (λ (v : Value Global). HasNarrowNumbers (value_view v)) (sym c.index-in-loop-i.ensures) (narrow_at ys i y (omega arith) h) in
    let whole : IsFaultOf (array (items_view xs)) (array (items_view ys)) c.in_err-compare.field-0.0 =
    fault_within (array (items_view xs)) (array (items_view ys)) (value_view x) (value_view y) c.in_err-compare.field-0.0 left right c.in_err-compare.ensures.fault in
    search rules

pub compare_items-loop-i-preserved : goal.compare_items-loop-i-preserved
compare_items-loop-i-preserved t c =
    let xs = c.args.own.now.items in
    let ys = c.args.other.now.items in
    let i = c.loop-i.i in
    let x = c.index.result.now in
    let y = c.index-in-loop-i.result.now in
    let rules = rules_view c.args.rules.now in
    let trail : List declared.Step = c.args.trail.now.items in
    let told : map change_view c.compare.new.changes.items ≡ map change_view c.loop-i.changes.items ++ told_at rules (trail_view trail ++ place i ∷ []) (differences (value_view x) (value_view y)) =
    told_deep rules trail c.loop-i.trail.items c.push_item_step.new.trail.items (place i) (map change_view c.loop-i.changes.items) (map change_view c.compare.new.changes.items) (differences (value_view x) (value_view y)) c.loop-i.invariant.1
    c.in_ok-push_item_step.ensures.path c.in_ok-compare.ensures.told in
    let more : item_differences i (items_view (drop i xs)) (items_view (drop i ys))
    ≡ map (inside (place i)) (differences (value_view x) (value_view y)) ++ item_differences (i + 1) (items_view (drop (i + 1) xs)) (items_view (drop (i + 1) ys)) =
    items_step xs ys i x y (omega arith) (omega arith)
    ∙ (λ s. map (inside (place i)) (differences (value_view (sym c.index.ensures s)) (value_view (sym c.index-in-loop-i.ensures s))) ++ item_differences (i + 1) (items_view (drop (i + 1) xs)) (items_view (drop (i + 1) ys))) in
    let end : c.len-end.result ≡ length c.loop-i.trail.items = omega arith in (
      stepped rules (trail_view trail) (place i) (map change_view c.loop-i.changes.items) (map change_view c.compare.new.changes.items) (differences (value_view x) (value_view y))
          (item_differences (i + 1) (items_view (drop (i + 1) xs)) (items_view (drop (i + 1) ys))) (item_differences i (items_view (drop i xs)) (items_view (drop i ys))) told more ∙ c.loop-i.invariant.0,
      cut trail c.loop-i.trail.items c.push_item_step.new.trail.items c.compare.new.trail.items c.truncate.new.self.items c.len-end.result c.loop-i.invariant.1 end c.in_ok-push_item_step.ensures.front c.in_ok-compare.ensures.trail c.truncate.ensures.items,
    )

pub compare_items-returns-clause-told : goal.compare_items-returns-clause-told
compare_items-returns-clause-told t c =
    let xs = c.args.own.now.items in
    let ys = c.args.other.now.items in
    let rules = rules_view c.args.rules.now in
    let trail : List declared.Step = c.args.trail.now.items in
    let shared : ℕ = c.min-shared.result in
    let lefts = alone_items only_left shared (items_view (drop shared xs)) in
    let rights = alone_items only_right shared (items_view (drop shared ys)) in
    let at : c.loop-i.i ≡ shared = omega arith in
    let first : map change_view c.push_items.new.changes.items ≡ map change_view c.loop-i.changes.items ++ told_at rules (trail_view trail) lefts =
    c.in_ok-push_items.ensures.told ∙ ap (λ p. map change_view c.loop-i.changes.items ++ told_at rules (trail_view p) lefts) c.loop-i.invariant.1 in
    let second : map change_view c.push_items-2.new.changes.items ≡ map change_view c.push_items.new.changes.items ++ told_at rules (trail_view trail) rights =
    c.in_ok-push_items-2.ensures.told ∙ ap (λ p. map change_view c.push_items.new.changes.items ++ told_at rules (trail_view p) rights) (c.in_ok-push_items.ensures.trail ∙ c.loop-i.invariant.1) in
    let both : item_differences shared (items_view (drop shared xs)) (items_view (drop shared ys)) ≡ lefts ++ rights = items_end xs ys shared (omega arith) in
    twice rules (trail_view trail) (map change_view c.loop-i.changes.items) (map change_view c.push_items.new.changes.items) (map change_view c.push_items-2.new.changes.items) lefts rights
    (item_differences shared (items_view (drop shared xs)) (items_view (drop shared ys))) first second both
    ∙ ap (λ n. map change_view c.loop-i.changes.items ++ told_at rules (trail_view trail) (item_differences n (items_view (drop n xs)) (items_view (drop n ys)))) (sym at) ∙ c.loop-i.invariant.0

pub compare_members-compare_found-requires : goal.compare_members-compare_found-requires
compare_members-compare_found-requires t c =
    let ms = c.args.own.now.items in
    let ns = members_view c.args.other.now.items in
    let i = c.loop-i.i in
    let m = c.index-member.result.now in
    let found : seen c.index.result.now ≡ get_member m.0.now ns =
    ap seen c.index.ensures ∙ found_at ms c.in_ok-found.found.items ns i c.index.result.now m c.in_ok-found.ensures (omega arith) ∙ ap (λ (n : Pair Global). get_member n.0.now ns) (sym c.index-member.ensures) in
    let left_numbers : HasNumbers (value_view m.1) = subst (λ (n : Pair Global). HasNumbers (value_view n.1)) (sym c.index-member.ensures) (member_numbers_at ms i m (omega arith) c.requires.left_numbers) in
    let right_numbers : IfSome c.index.result.now (λ v. HasNumbers (value_view v.now)) =
    if_seen HasNumbers (λ v. value_view v.now) c.index.result.now (get_member m.0.now ns) found (numbers_found m.0.now ns c.requires.right_numbers) in
    let smaller : suc (length (json_tokens (value_view m.1))) < length (members_tokens (members_view ms)) =
    subst (λ (n : Pair Global). suc (length (json_tokens (value_view n.1))) < length (members_tokens (members_view ms))) (sym c.index-member.ensures) (two_smaller ms i m (omega arith)) in
    search rules

pub compare_members-returns-in_err-compare_found-clause-fault :
    goal.compare_members-returns-in_err-compare_found-clause-fault
compare_members-returns-in_err-compare_found-clause-fault t c =
    let ms = c.args.own.now.items in
    let ns = members_view c.args.other.now.items in
    let i = c.loop-i.i in
    let m = c.index-member.result.now in
    let found : seen c.index.result.now ≡ get_member m.0.now ns =
    ap seen c.index.ensures ∙ found_at ms c.in_ok-found.found.items ns i c.index.result.now m c.in_ok-found.ensures (omega arith) ∙ ap (λ (n : Pair Global). get_member n.0.now ns) (sym c.index-member.ensures) in
    let left : HasNarrowNumbers (object (members_view ms)) → HasNarrowNumbers (value_view m.1) = λ h. subst (λ (n : Pair Global). HasNarrowNumbers (value_view n.1)) (sym c.index-member.ensures) (member_narrow_at ms i m (omega arith) h) in
    let whole : IsFaultOf (object (members_view ms)) (object ns) c.in_err-compare_found.field-0.0 =
    fault_found (object (members_view ms)) ns m.0.now (value_view m.1) (λ v. value_view v.now) c.index.result.now c.in_err-compare_found.field-0.0 found left c.in_err-compare_found.ensures.fault in
    search rules

pub compare_members-loop-i-preserved : goal.compare_members-loop-i-preserved
compare_members-loop-i-preserved t c =
    let ms = c.args.own.now.items in
    let ns = members_view c.args.other.now.items in
    let i = c.loop-i.i in
    let m = c.index-member.result.now in
    let found : seen c.index.result.now ≡ get_member m.0.now ns =
    ap seen c.index.ensures ∙ found_at ms c.in_ok-found.found.items ns i c.index.result.now m c.in_ok-found.ensures (omega arith) ∙ ap (λ (n : Pair Global). get_member n.0.now ns) (sym c.index-member.ensures) in
    let rules = rules_view c.args.rules.now in
    let trail : List declared.Step = c.args.trail.now.items in
    let key : List ℕ = m.0.now in
    let between : Json → List Difference = λ k. differences (value_view m.1) k in
    let told : map change_view c.compare_found.new.changes.items ≡ map change_view c.loop-i.changes.items ++ told_at rules (trail_view trail ++ name key ∷ []) (beside (value_view m.1) between (get_member key ns)) =
    told_deep rules trail c.loop-i.trail.items c.push_member_step.new.trail.items (name key) (map change_view c.loop-i.changes.items) (map change_view c.compare_found.new.changes.items) (beside (value_view m.1) between (get_member key ns)) c.loop-i.invariant.1
    c.in_ok-push_member_step.ensures.path (c.in_ok-compare_found.ensures.told ∙ ap (λ o. map change_view c.loop-i.changes.items ++ told_at rules (trail_view c.push_member_step.new.trail.items) (beside (value_view m.1) between o)) found) in
    let more : member_differences (members_view (drop i ms)) ns ≡ map (inside (name key)) (beside (value_view m.1) between (get_member key ns)) ++ member_differences (members_view (drop (i + 1) ms)) ns =
    members_step ms ns i m (omega arith)
    ∙ ap (λ (n : Pair Global). map (inside (name n.0.now)) (beside (value_view n.1) (λ k. differences (value_view n.1) k) (get_member n.0.now ns)) ++ member_differences (members_view (drop (i + 1) ms)) ns) (sym c.index-member.ensures) in
    let end : c.len-end.result ≡ length c.loop-i.trail.items = omega arith in (
      stepped rules (trail_view trail) (name key) (map change_view c.loop-i.changes.items) (map change_view c.compare_found.new.changes.items) (beside (value_view m.1) between (get_member key ns))
          (member_differences (members_view (drop (i + 1) ms)) ns) (member_differences (members_view (drop i ms)) ns) told more ∙ c.loop-i.invariant.0,
      cut trail c.loop-i.trail.items c.push_member_step.new.trail.items c.compare_found.new.trail.items c.truncate.new.self.items c.len-end.result c.loop-i.invariant.1 end c.in_ok-push_member_step.ensures.front c.in_ok-compare_found.ensures.trail c.truncate.ensures.items,
    )
