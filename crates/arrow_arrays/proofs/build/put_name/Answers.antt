use Rattle.std.proofs.Common.{◌++◌, ◌∷◌, [], map, ap, ◌∙◌}
use Rattle.std.specs.Prelude.{string_bytes}
use Rattle.std.proofs.lemmas.List.{map-append}
use Rattle.arrow_arrays.proofs.build.put_name.Goals as goal

pub returns-clause-put : goal.returns-clause-put
returns-clause-put c =
    ap (map string_bytes) c.in_ok-push.ensures.items
    ∙ map-append string_bytes c.args.names.now.items (c.in_ok-name.name ∷ [])
    ∙ ap (λ x. map string_bytes c.args.names.now.items ++ x ∷ []) c.in_ok-name.ensures.name
