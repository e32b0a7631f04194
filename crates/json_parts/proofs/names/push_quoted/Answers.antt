use Rattle.std.proofs.Common.{◌≡◌, ◌++◌, ◌∙◌, ap, rules}
use Rattle.json.specs.Json.{string}
use Rattle.json.specs.Print.{print}
use Rattle.json.specs.Tree.{json_tokens}
use Rattle.json.specs.Value.{value_view}
use Rattle.json.specs.declared.value.Value.{String, the_lemmas}
use Rattle.json_parts.proofs.TextLemmas.{printed_string}
use Rattle.json_parts.proofs.names.push_quoted.Goals as goal

pub returns : goal.returns
returns c =
    let seen : value_view (String c.args.name) ≡ string c.args.name.now = search (rules, the_lemmas) in
    c.in_ok-extend_from_slice.ensures.items
    ∙ ap (λ x. c.args.path.now.items ++ x) (c.as_slice.ensures.value ∙ c.in_ok-text.ensures.text ∙ ap (λ j. print (json_tokens j)) seen ∙ printed_string c.args.name.now)
