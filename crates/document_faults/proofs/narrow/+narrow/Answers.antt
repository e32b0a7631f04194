use Rattle.std.proofs.Common.{◌≡◌, ◌+◌, ◌∷◌, drop, sym, ap, ◌∙◌, subst, arith, rules}
use Rattle.std.proofs.lemmas.List.{drop_more}
use Rattle.json.specs.Value.{value_view, items_view}
use Rattle.json_decimals.specs.declared.error.NumberError.TheVariants.{WideExponent}
use Rattle.json_normal.specs.Narrow.{HasNarrowNumbers, ItemsHaveNarrowNumbers}
use Rattle.document_faults.proofs.narrow.+narrow.Goals as goal

pub check_items-returns-in_err-check_narrow : goal.check_items-returns-in_err-check_narrow
check_items-returns-in_err-check_narrow t c =
    let l = c.loop-item in
    let xs = c.deref-item-items.result.now in
    let x = c.item-item.result in
    let here : drop l.item-index xs ≡ x ∷ drop (l.item-index + 1) xs = drop_more xs l.item-index x (omega arith) ∙ ap (λ y. y ∷ drop (l.item-index + 1) xs) (sym c.item-item.is) in
    let part : ItemsHaveNarrowNumbers (items_view c.args.items.now.items) → HasNarrowNumbers (value_view x) =
    λ h. (subst (λ ys. ItemsHaveNarrowNumbers (items_view ys)) here (l.invariant.1 (subst (λ ys. ItemsHaveNarrowNumbers (items_view ys)) (sym c.deref-item-items.ensures.value) h))).0 in
    let told : c.in_err-check_narrow.field-0.0 ≡ WideExponent → ¬ ItemsHaveNarrowNumbers (items_view c.args.items.now.items) = λ wide h. c.in_err-check_narrow.ensures wide (part h) in
    search rules
