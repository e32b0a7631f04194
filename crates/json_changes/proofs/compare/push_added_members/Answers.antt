use Rattle.std.proofs.Common.{◌≡◌, ◌+◌, ◌++◌, List, drop, map, ap, sym, ◌∙◌, subst, arith, Global}
use Rattle.json.specs.Find.{get_member}
use Rattle.json.specs.Tree.{HasNumbers}
use Rattle.json.specs.Value.{value_view, members_view}
use Rattle.json_paths.specs.declared.path.Step as declared
use Rattle.json_changes.specs.Differences.{added_member, added_members}
use Rattle.json_changes.specs.Names.{seen}
use Rattle.json_changes.specs.Texts.{change_view, rules_view, told_at, trail_view}
use Rattle.json_changes.proofs.PartLemmas.{Pair, added_step, member_numbers_at}
use Rattle.json_changes.proofs.TableLemmas.{found_at}
use Rattle.json_changes.proofs.TextLemmas.{joined}
use Rattle.json_changes.proofs.compare.push_added_members.Goals as goal

pub push_added_member-requires : goal.push_added_member-requires
push_added_member-requires c =
    subst (λ (m : Pair Global). HasNumbers (value_view m.1)) (sym c.index-in-loop-i.ensures) (member_numbers_at c.args.other.now.items c.loop-i.i c.index-in-loop-i.result.now (omega arith) c.requires)

pub loop-i-preserved : goal.loop-i-preserved
loop-i-preserved c =
    let ms = members_view c.args.own.now.items in
    let ns = c.args.other.now.items in
    let i = c.loop-i.i in
    let m = c.index-in-loop-i.result.now in
    let rules = rules_view c.args.rules.now in
    let trail : List declared.Step = c.args.trail.now.items in
    let found : seen c.index.result.now ≡ get_member m.0.now ms =
    ap seen c.index.ensures ∙ found_at ns c.in_ok-found.found.items ms i c.index.result.now m c.in_ok-found.ensures (omega arith) ∙ ap (λ (n : Pair Global). get_member n.0.now ms) (sym c.index-in-loop-i.ensures) in
    let told : map change_view c.push_added_member.new.changes.items ≡ map change_view c.loop-i.changes.items ++ told_at rules (trail_view trail) (added_member m.0.now (value_view m.1) (get_member m.0.now ms)) =
    c.in_ok-push_added_member.ensures.told ∙ (λ s. map change_view c.loop-i.changes.items ++ told_at rules (trail_view (c.loop-i.invariant.1 s)) (added_member m.0.now (value_view m.1) (found s))) in
    let more : added_members ms (members_view (drop i ns)) ≡ added_member m.0.now (value_view m.1) (get_member m.0.now ms) ++ added_members ms (members_view (drop (i + 1) ns)) =
    added_step ms ns i m (omega arith)
    ∙ ap (λ (n : Pair Global). added_member n.0.now (value_view n.1) (get_member n.0.now ms) ++ added_members ms (members_view (drop (i + 1) ns))) (sym c.index-in-loop-i.ensures) in (
      joined rules (trail_view trail) (map change_view c.loop-i.changes.items) (map change_view c.push_added_member.new.changes.items) (added_member m.0.now (value_view m.1) (get_member m.0.now ms))
          (added_members ms (members_view (drop (i + 1) ns))) (added_members ms (members_view (drop i ns))) told more ∙ c.loop-i.invariant.0,
      c.in_ok-push_added_member.ensures.trail ∙ c.loop-i.invariant.1,
    )
