use Rattle.std.proofs.Common.{◌∙◌, ◌++◌, ◌∷◌, [], ap, sym}
use Rattle.std.proofs.lemmas.List.{append_assoc}
use Rattle.diff_tables.specs.Keys.{marked}
use Rattle.diff_tables.proofs.escaped.push_byte.Goals as goal

pub returns-then-byte-eq0 : goal.returns-then-byte-eq0
returns-then-byte-eq0 c =
    let old = c.args.out.now.items in
    c.in_ok-push-2.ensures.items
    ∙ (ap (λ l. l ++ 1 ∷ []) c.in_ok-push.ensures.items
    ∙ (append_assoc old (0 ∷ []) (1 ∷ []) ∙ ap (λ b. old ++ marked b) (sym c.if-byte-eq0.true)))
