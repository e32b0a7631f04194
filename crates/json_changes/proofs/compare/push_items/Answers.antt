use Rattle.std.proofs.Common.{◌≡◌, ◌+◌, ◌++◌, List, [], ◌∷◌, drop, length, map, ap, refl, sym, ◌∙◌, subst, arith, Global}
use Rattle.json.specs.Tree.{HasNumbers}
use Rattle.json.specs.Value.{value_view, items_view}
use Rattle.json.specs.declared.value.Value.{Value}
use Rattle.json_paths.specs.Paths.{place}
use Rattle.json_paths.specs.declared.path.Step as declared
use Rattle.json_changes.specs.Differences.{alone_items, inside}
use Rattle.json_changes.specs.Texts.{change_view, only_in, rules_view, told_at, trail_view}
use Rattle.json_changes.proofs.PartLemmas.{alone_step, numbers_at}
use Rattle.json_changes.proofs.TextLemmas.{cut, stepped, told_deep}
use Rattle.json_changes.proofs.compare.push_items.Goals as goal

pub push_alone-requires : goal.push_alone-requires
push_alone-requires c =
    subst (λ (v : Value Global). HasNumbers (value_view v)) (sym c.index.ensures) (numbers_at c.args.items.now.items c.loop-i.i c.index.result.now (omega arith) c.requires)

pub loop-i-preserved : goal.loop-i-preserved
loop-i-preserved c =
    let xs = c.args.items.now.items in
    let i = c.loop-i.i in
    let x = c.index.result.now in
    let rules = rules_view c.args.rules.now in
    let trail : List declared.Step = c.args.trail.now.items in
    let alone = only_in c.args.side in
    let rest = alone_items alone (i + 1) (items_view (drop (i + 1) xs)) in
    let told : map change_view c.push_alone.new.changes.items ≡ map change_view c.loop-i.changes.items ++ told_at rules (trail_view trail ++ place i ∷ []) (alone (value_view x) ∷ []) =
    told_deep rules trail c.loop-i.trail.items c.push_item_step.new.trail.items (place i) (map change_view c.loop-i.changes.items) (map change_view c.push_alone.new.changes.items) (alone (value_view x) ∷ []) c.loop-i.invariant.1
    c.in_ok-push_item_step.ensures.path c.in_ok-push_alone.ensures in
    let more : alone_items alone i (items_view (drop i xs)) ≡ inside (place i) (alone (value_view x)) ∷ rest =
    alone_step alone xs i x (omega arith) ∙ ap (λ (v : Value Global). inside (place i) (alone (value_view v)) ∷ rest) (sym c.index.ensures) in
    let end : c.len-end.result ≡ length c.loop-i.trail.items = omega arith in (
      stepped rules (trail_view trail) (place i) (map change_view c.loop-i.changes.items) (map change_view c.push_alone.new.changes.items) (alone (value_view x) ∷ []) rest
          (alone_items alone i (items_view (drop i xs))) told more ∙ c.loop-i.invariant.0,
      cut trail c.loop-i.trail.items c.push_item_step.new.trail.items c.push_item_step.new.trail.items c.truncate.new.self.items c.len-end.result c.loop-i.invariant.1 end c.in_ok-push_item_step.ensures.front refl c.truncate.ensures.items,
    )
