use Rattle.std.proofs.Common.{◌++◌, ◌∙◌, ap, map}
use Rattle.std.specs.List.{filter}
use Rattle.json.specs.Value.{value_view}
use Rattle.json_changes.specs.Differences.{differences}
use Rattle.json_changes.specs.Rules.{is_told}
use Rattle.json_changes.specs.Texts.{change_view, rules_view, told, told_at, trail_view}
use Rattle.json_changes.proofs.TextLemmas.{from_top}
use Rattle.json_changes.proofs.changes.changes_under.Goals as goal

pub returns-clause-told : goal.returns-clause-told
returns-clause-told c =
    let rules = rules_view c.args.rules.now in
    let all = differences (value_view c.args.left.now) (value_view c.args.right.now) in
    c.in_ok-compare.ensures.told
    ∙ (λ s. map change_view (c.new-changes.ensures.items s) ++ told_at rules (trail_view (c.new-trail.ensures.items s)) all)
    ∙ ap (λ ds. map told (filter (is_told rules) ds)) (from_top all)
