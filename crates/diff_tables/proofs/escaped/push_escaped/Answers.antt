use Rattle.std.proofs.Common.{◌≡◌, ◌∙◌, ap, sym, rules, ◌++◌, ◌∷◌, [], false}
use Rattle.std.proofs.lemmas.List.{append_assoc}
use Rattle.std.specs.List.{list_any}
use Rattle.std.specs.Prelude.{nat_eq}
use Rattle.diff_tables.proofs.KeyLemmas.{escaped_plain}
use Rattle.diff_tables.proofs.escaped.push_escaped.Goals as goal

pub returns : goal.returns
returns c =
    let none : list_any (λ y. nat_eq y 0) c.args.string.now ≡ false = search rules in
    c.in_ok-extend_from_slice-2.ensures.items
    ∙ (ap (λ l. l ++ 0 ∷ 0 ∷ []) c.in_ok-extend_from_slice.ensures.items
    ∙ (append_assoc c.args.out.now.items c.args.string.now (0 ∷ 0 ∷ []) ∙ ap (λ l. c.args.out.now.items ++ l) (sym (escaped_plain c.args.string.now none))))
