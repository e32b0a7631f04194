use Rattle.std.proofs.Common.{ap}
use Rattle.std.proofs.lemmas.List.Elements.{All-contains_itself, All-filter}
use Rattle.std.specs.List.{Contains, filter}
use Rattle.json_changes.specs.Differences.{differences}
use Rattle.json_changes.specs.Rules.{is_told}
use Rattle.json_changes.proofs.SameLemmas.{none_values}
use Rattle.json_changes.proofs.TextLemmas.{all_told}
use Rattle.json_changes.proofs.ToleranceLemmas.{fewer_told, only_numbers}
use Rattle.json_changes.proofs.laws.rule_laws.Goals as goal

pub returns-clause-all_told : goal.returns-clause-all_told
returns-clause-all_told c = all_told

pub returns-clause-told_are_differences : goal.returns-clause-told_are_differences
returns-clause-told_are_differences c =
    λ rules j k. All-filter (is_told rules) (Contains (differences j k)) (differences j k) (All-contains_itself (differences j k))

pub returns-clause-nothing_where_same : goal.returns-clause-nothing_where_same
returns-clause-nothing_where_same c = λ rules j k u h. ap (filter (is_told rules)) (none_values j k u h)

pub returns-clause-only_numbers_tolerated : goal.returns-clause-only_numbers_tolerated
returns-clause-only_numbers_tolerated c = only_numbers

pub returns-clause-tolerances_add_none : goal.returns-clause-tolerances_add_none
returns-clause-tolerances_add_none c = λ rules j k. fewer_told rules (differences j k)
