use Rattle.std.proofs.Common.{◌≡◌, ℕ, List, Bool, ◌+◌, ◌<◌, [], ◌∷◌, ◌++◌, length, get_or, drop, sym, ap, ◌∙◌, subst, arith, rules, Global}
use Rattle.std.proofs.lemmas.List.{drop_more, append_assoc}
use Rattle.std.proofs.lemmas.Result.{on_ok_weaker}
use Rattle.std.specs.Bool.{⊤}
use Rattle.std.specs.Borrow.{Bor}
use Rattle.json.proofs.Trees.{item_smaller, view-Array, view-Object}
use Rattle.json.specs.Json.{null, boolean, number, string, array, object}
use Rattle.json.specs.Strict.{keys, AreDistinct, HasUniqueKeys, ItemsHaveUniqueKeys, MembersHaveUniqueKeys}
use Rattle.json.specs.Token.{begin_array, begin_object}
use Rattle.json.specs.Tree.{json_tokens, items_tokens, members_tokens}
use Rattle.json.specs.Value.{value_view, items_view, members_view}
use Rattle.json.specs.declared.value.Value as values
use Rattle.json.specs.declared.value.Value.{the_lemmas}
use Rattle.json_decimals.specs.declared.error.NumberError.{NumberError}
use Rattle.json_decimals.specs.declared.error.NumberError.TheVariants.{WideExponent}
use Rattle.json_normal.specs.Narrow.{HasNarrowNumbers, ItemsHaveNarrowNumbers, MembersHaveNarrowNumbers}
use Rattle.json_normal.specs.Normal.{normal, normal_items, normal_entries, in_order, members_from}
use Rattle.json_normal.proofs.MemberLemmas.{IsGood, good_refs}
use Rattle.json_normal.proofs.NarrowLemmas.{tells_alike, narrow_refs, narrow_members}
use Rattle.json_normal.proofs.SortedLemmas.{Ref}
use Rattle.json_normal.proofs.write.+normal.Goals as goal

view-Null : value_view {A = Global} values.Null ≡ null
view-Null = search (rules, the_lemmas)

view-Bool : (b : Bool) → value_view {A = Global} (values.Bool b) ≡ boolean b
view-Bool b = search (rules, the_lemmas)

view-Number : (s : Bor (List ℕ)) → value_view {A = Global} (values.Number s) ≡ number s.now
view-Number s = search (rules, the_lemmas)

view-String : (s : Bor (List ℕ)) → value_view {A = Global} (values.String s) ≡ string s.now
view-String s = search (rules, the_lemmas)

pub write_items-write_normal-requires : goal.write_items-write_normal-requires
write_items-write_normal-requires t c =
    let l = c.loop-item in
    let xs = c.deref-item-items.result.now in
    let x = c.item-item.result in
    let here : drop l.item-index xs ≡ x ∷ drop (l.item-index + 1) xs = drop_more xs l.item-index x (omega arith) ∙ ap (λ y. y ∷ drop (l.item-index + 1) xs) (sym c.item-item.is) in
    let unique : HasUniqueKeys (value_view x) = (subst (λ ys. ItemsHaveUniqueKeys (items_view ys)) here l.invariant.2).0 in
    let smaller : length (json_tokens (value_view x)) < length (items_tokens (items_view c.args.items.now.items)) =
    subst (λ ys. length (json_tokens (value_view x)) < length (items_tokens (items_view ys))) c.deref-item-items.ensures.value
    (subst (λ y. length (json_tokens (value_view y)) < length (items_tokens (items_view xs))) (sym c.item-item.is) (item_smaller xs l.item-index x (omega arith))) in
    search rules

pub write_members-write_normal-requires : goal.write_members-write_normal-requires
write_members-write_normal-requires t c =
    let v : Ref Global = c.index-member.result.now in
    let at : v ≡ get_or c.in_ok-order.order.items c.loop-i.i v = search rules in
    let good = good_refs c.args.members.now.items c.in_ok-order.order.items c.in_ok-order.ensures.moved c.requires.unique in
    let mine : IsGood (length (members_tokens (members_view c.args.members.now.items))) v.now =
    subst (λ (w : Ref Global). IsGood (length (members_tokens (members_view c.args.members.now.items))) w.now) (sym at) (good c.loop-i.i v (omega arith)) in
    let unique = mine.unique in
    let smaller = mine.smaller in
    search rules

pub write_normal-write_members-requires : goal.write_normal-write_members-requires
write_normal-write_members-requires t c =
    let ms = members_view c.in-Object.members.items in
    let seen : value_view c.args.value.now ≡ object ms = ap value_view c.in-Object.is ∙ view-Object c.in-Object.members in
    let both : AreDistinct (keys ms) × MembersHaveUniqueKeys ms = subst HasUniqueKeys seen c.requires.unique in
    let distinct : AreDistinct (keys ms) = both.0 in
    let unique : MembersHaveUniqueKeys ms = both.1 in
    let smaller : length (members_tokens ms) < length (json_tokens (value_view c.args.value.now)) = subst (λ j. length (members_tokens ms) < length (json_tokens j)) (sym seen) (omega arith) in
    search rules

pub write_normal-returns-in_ok-write_token-in-Array-clause-ok :
    goal.write_normal-returns-in_ok-write_token-in-Array-clause-ok
write_normal-returns-in_ok-write_token-in-Array-clause-ok t c =
    let js = normal_items (items_view c.in-Array.items.items) in
    let seen : json_tokens (normal (value_view c.args.value.now)) ≡ begin_array ∷ items_tokens js = ap (λ j. json_tokens (normal j)) (ap value_view c.in-Array.is ∙ view-Array c.in-Array.items) in
    let began : c.write_token-in-Array.new.writer.tokens ≡ c.args.writer.now.tokens ++ begin_array ∷ [] = c.in_ok-write_token-in-Array.ensures.ok in
    on_ok_weaker {T = Unit {0}} {E = NumberError} {P = c.write_items.new.writer.tokens ≡ c.write_token-in-Array.new.writer.tokens ++ items_tokens js} {Q = c.write_items.new.writer.tokens ≡ c.args.writer.now.tokens ++ json_tokens (normal (value_view c.args.value.now))} c.write_items.result (λ done. done ∙ ap (λ ts. ts ++ items_tokens js) began ∙ append_assoc c.args.writer.now.tokens (begin_array ∷ []) (items_tokens js) ∙ ap (λ ts. c.args.writer.now.tokens ++ ts) (sym seen)) c.write_items.ensures.ok

pub write_normal-returns-in_ok-write_token-in-Object-clause-ok :
    goal.write_normal-returns-in_ok-write_token-in-Object-clause-ok
write_normal-returns-in_ok-write_token-in-Object-clause-ok t c =
    let ms = members_from (in_order (normal_entries (members_view c.in-Object.members.items))) in
    let seen : json_tokens (normal (value_view c.args.value.now)) ≡ begin_object ∷ members_tokens ms = ap (λ j. json_tokens (normal j)) (ap value_view c.in-Object.is ∙ view-Object c.in-Object.members) in
    let began : c.write_token-in-Object.new.writer.tokens ≡ c.args.writer.now.tokens ++ begin_object ∷ [] = c.in_ok-write_token-in-Object.ensures.ok in
    on_ok_weaker {T = Unit {0}} {E = NumberError} {P = c.write_members.new.writer.tokens ≡ c.write_token-in-Object.new.writer.tokens ++ members_tokens ms} {Q = c.write_members.new.writer.tokens ≡ c.args.writer.now.tokens ++ json_tokens (normal (value_view c.args.value.now))} c.write_members.result (λ done. done ∙ ap (λ ts. ts ++ members_tokens ms) began ∙ append_assoc c.args.writer.now.tokens (begin_object ∷ []) (members_tokens ms) ∙ ap (λ ts. c.args.writer.now.tokens ++ ts) (sym seen)) c.write_members.ensures.ok

pub write_members-returns-in_err-write_normal-clause-narrow :
    goal.write_members-returns-in_err-write_normal-clause-narrow
write_members-returns-in_err-write_normal-clause-narrow t c =
    let ms = c.args.members.now.items in
    let v : Ref Global = c.index-member.result.now in
    let at : v ≡ get_or c.in_ok-order.order.items c.loop-i.i v = search rules in
    let part : MembersHaveNarrowNumbers (members_view ms) → HasNarrowNumbers (value_view v.now.1) = λ h. subst (λ (w : Ref Global). HasNarrowNumbers (value_view w.now.1)) (sym at) (narrow_refs ms c.in_ok-order.order.items c.in_ok-order.ensures.moved h c.loop-i.i v (omega arith)) in
    let told : c.in_err-write_normal.field-0.0 ≡ WideExponent → ¬ MembersHaveNarrowNumbers (members_view ms) = λ wide h. c.in_err-write_normal.ensures.narrow wide (part h) in
    search rules

pub write_members-returns-clause-narrow : goal.write_members-returns-clause-narrow
write_members-returns-clause-narrow t c =
    let ms = c.args.members.now.items in
    tells_alike c.write_token-2.result ⊤ (MembersHaveNarrowNumbers (members_view ms)) (λ _. narrow_members ms c.in_ok-order.order.items c.in_ok-order.ensures.moved (λ k d h. c.loop-i.invariant.2 k d (omega arith)))
    (λ _. tt) c.write_token-2.ensures.narrow

pub write_items-returns-in_err-write_normal-clause-narrow :
    goal.write_items-returns-in_err-write_normal-clause-narrow
write_items-returns-in_err-write_normal-clause-narrow t c =
    let l = c.loop-item in
    let xs = c.deref-item-items.result.now in
    let x = c.item-item.result in
    let here : drop l.item-index xs ≡ x ∷ drop (l.item-index + 1) xs = drop_more xs l.item-index x (omega arith) ∙ ap (λ y. y ∷ drop (l.item-index + 1) xs) (sym c.item-item.is) in
    let part : ItemsHaveNarrowNumbers (items_view c.args.items.now.items) → HasNarrowNumbers (value_view x) =
    λ h. (subst (λ ys. ItemsHaveNarrowNumbers (items_view ys)) here (l.invariant.4 (subst (λ ys. ItemsHaveNarrowNumbers (items_view ys)) (sym c.deref-item-items.ensures.value) h))).0 in
    let told : c.in_err-write_normal.field-0.0 ≡ WideExponent → ¬ ItemsHaveNarrowNumbers (items_view c.args.items.now.items) = λ wide h. c.in_err-write_normal.ensures.narrow wide (part h) in
    search rules

pub write_normal-returns-in-Null-clause-ok : goal.write_normal-returns-in-Null-clause-ok
write_normal-returns-in-Null-clause-ok t c =
    let seen : value_view c.args.value.now ≡ null = ap value_view c.in-Null.is ∙ view-Null in
    rw seen c.write_token.ensures.ok

pub write_normal-returns-in-Null-clause-narrow : goal.write_normal-returns-in-Null-clause-narrow
write_normal-returns-in-Null-clause-narrow t c =
    let seen : value_view c.args.value.now ≡ null = ap value_view c.in-Null.is ∙ view-Null in
    rw seen c.write_token.ensures.narrow

pub write_normal-returns-in-Bool-clause-ok : goal.write_normal-returns-in-Bool-clause-ok
write_normal-returns-in-Bool-clause-ok t c =
    let seen : value_view c.args.value.now ≡ boolean c.in-Bool.b = ap value_view c.in-Bool.is ∙ view-Bool c.in-Bool.b in
    rw seen c.write_token-in-Bool.ensures.ok

pub write_normal-returns-in-Bool-clause-narrow : goal.write_normal-returns-in-Bool-clause-narrow
write_normal-returns-in-Bool-clause-narrow t c =
    let seen : value_view c.args.value.now ≡ boolean c.in-Bool.b = ap value_view c.in-Bool.is ∙ view-Bool c.in-Bool.b in
    rw seen c.write_token-in-Bool.ensures.narrow

pub write_normal-returns-in-Number-clause-ok : goal.write_normal-returns-in-Number-clause-ok
write_normal-returns-in-Number-clause-ok t c =
    let seen : value_view c.args.value.now ≡ number c.in-Number.text.now = ap value_view c.in-Number.is ∙ view-Number c.in-Number.text in
    rw seen c.write_number.ensures.ok

pub write_normal-returns-in-Number-clause-narrow : goal.write_normal-returns-in-Number-clause-narrow
write_normal-returns-in-Number-clause-narrow t c =
    let seen : value_view c.args.value.now ≡ number c.in-Number.text.now = ap value_view c.in-Number.is ∙ view-Number c.in-Number.text in
    rw seen c.write_number.ensures.narrow

pub write_normal-returns-in-String-clause-ok : goal.write_normal-returns-in-String-clause-ok
write_normal-returns-in-String-clause-ok t c =
    let seen : value_view c.args.value.now ≡ string c.in-String.text.now = ap value_view c.in-String.is ∙ view-String c.in-String.text in
    rw seen c.write_token-in-String.ensures.ok

pub write_normal-returns-in-String-clause-narrow : goal.write_normal-returns-in-String-clause-narrow
write_normal-returns-in-String-clause-narrow t c =
    let seen : value_view c.args.value.now ≡ string c.in-String.text.now = ap value_view c.in-String.is ∙ view-String c.in-String.text in
    rw seen c.write_token-in-String.ensures.narrow

pub write_normal-returns-in_ok-write_token-in-Array-clause-narrow :
    goal.write_normal-returns-in_ok-write_token-in-Array-clause-narrow
write_normal-returns-in_ok-write_token-in-Array-clause-narrow t c =
    let seen : value_view c.args.value.now ≡ array (items_view c.in-Array.items.items) = ap value_view c.in-Array.is ∙ view-Array c.in-Array.items in
    rw seen c.write_items.ensures.narrow

pub write_normal-returns-in_ok-write_token-in-Object-clause-narrow :
    goal.write_normal-returns-in_ok-write_token-in-Object-clause-narrow
write_normal-returns-in_ok-write_token-in-Object-clause-narrow t c =
    let seen : value_view c.args.value.now ≡ object (members_view c.in-Object.members.items) = ap value_view c.in-Object.is ∙ view-Object c.in-Object.members in
    rw seen c.write_members.ensures.narrow
