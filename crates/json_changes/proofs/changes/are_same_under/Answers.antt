use Rattle.std.proofs.Common.{◌∙◌, ap}
use Rattle.std.specs.Prelude.{◌==◌}
use Rattle.json.specs.Value.{value_view}
use Rattle.json_changes.specs.Rules.{differences_told}
use Rattle.json_changes.specs.Texts.{rules_view}
use Rattle.json_changes.proofs.TextLemmas.{none_listed}
use Rattle.json_changes.proofs.changes.are_same_under.Goals as goal

pub returns-clause-same : goal.returns-clause-same
returns-clause-same c =
    let told = differences_told (rules_view c.args.rules.now) (value_view c.args.left.now) (value_view c.args.right.now) in
    none_listed c.in_ok-changes.changes.items told c.is_empty.result c.in_ok-changes.ensures.told
    (c.is_empty.ensures ∙ ap (λ n. n == 0) c.in_ok-changes.changes.ok.0)
