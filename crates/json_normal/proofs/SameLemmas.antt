-- Normal forms are one just where the values are the same.
use Rattle.std.proofs.Common.{◌≡◌, ℕ, ◌↔◌, List, [], ◌∷◌, inl, inr, ap, sym, ◌∙◌, subst, refl}
use Rattle.json.specs.Json.{Json, null, boolean, number, string, array, object, Items, no_items, item, Members, no_members, member}
use Rattle.json.specs.Strict.{HasUniqueKeys, ItemsHaveUniqueKeys, MembersHaveUniqueKeys}
use Rattle.json_decimals.proofs.TextLemmas.{texts_tell}
use Rattle.json_normal.specs.Normal.{Entry, in_order, members_from, normal, normal_items, normal_entries}
use Rattle.std.specs.Bool.{⊤}
use Rattle.json_normal.specs.Same.{HasMember, HaveNamesIn, AreSame, ItemsAreSame, EachIsIn}
use Rattle.json_normal.proofs.OrderLemmas.{Has, Distinct, lacks_has, order_has, order_keeps, any_order}
use Rattle.json_normal.proofs.SortedLemmas.{distinct_keys}

-- ---- from one normal form

members_one : (xs ys : List Entry) → members_from xs ≡ members_from ys → xs ≡ ys
members_one [] [] e = refl
members_one [] (y ∷ ys) e = absurd (cc)
members_one (x ∷ xs) [] e = absurd (cc)
members_one (x ∷ xs) (y ∷ ys) e =
    let rest : xs ≡ ys = members_one xs ys (cc) in
    let name : x.0 ≡ y.0 = cc in
    let value : x.1 ≡ y.1 = cc in
    (λ i. (name i, value i) ∷ rest i)

-- what one list has, a list with the same order has
moved : (xs ys : List Entry) → in_order xs ≡ in_order ys → (z : Entry) → Has xs z → Has ys z
moved xs ys e z h = order_has ys z (subst (λ (zs : List Entry). Has zs z) e (order_keeps xs z h))

found : (k : List ℕ) (j : Json) → ((i : Json) → normal j ≡ normal i → AreSame j i) → (ns : Members) → Has (normal_entries ns) (k, normal j) → HasMember k (λ i. AreSame j i) ns
found k j same no_members h = h
found k j same (member l i ns) (inl e) = inl (ap (λ (m : Entry). m.0) e, same i (ap (λ (m : Entry). m.1) e))
found k j same (member l i ns) (inr h) = inr (found k j same ns h)

named : (k : List ℕ) (j : Json) (ns : Members) → Has (normal_entries ns) (k, j) → HasMember k (λ _. ⊤) ns
named k j no_members h = h
named k j (member l i ns) (inl e) = inl (ap (λ (m : Entry). m.0) e, tt)
named k j (member l i ns) (inr h) = inr (named k j ns h)

names_in : (ms ns : Members) → ((z : Entry) → Has (normal_entries ms) z → Has (normal_entries ns) z) → HaveNamesIn ms ns
names_in no_members ns f = tt
names_in (member k j ms) ns f = (named k (normal j) ns (f (k, normal j) (inl refl)), names_in ms ns (λ z h. f z (inr h)))

mutual
  same_values : (j k : Json) → normal j ≡ normal k → AreSame j k
  same_values null null e = tt
  same_values (boolean a) (boolean b) e = cc
  same_values (number s) (number t) e = (texts_tell s t).1 (cc)
  same_values (string s) (string t) e = cc
  same_values (array js) (array ks) e = same_items js ks (cc)
  same_values (object ms) (object ns) e =
      let one : in_order (normal_entries ms) ≡ in_order (normal_entries ns) = members_one (in_order (normal_entries ms)) (in_order (normal_entries ns)) (cc) in
      (same_members ms ns (moved (normal_entries ms) (normal_entries ns) one), names_in ns ms (moved (normal_entries ns) (normal_entries ms) (sym one)))
  same_values j k e = cc

  same_items : (js ks : Items) → normal_items js ≡ normal_items ks → ItemsAreSame js ks
  same_items no_items no_items e = tt
  same_items (item j js) (item k ks) e = (same_values j k (cc), same_items js ks (cc))
  same_items js ks e = cc

  same_members : (ms ns : Members) → ((z : Entry) → Has (normal_entries ms) z → Has (normal_entries ns) z) → EachIsIn ms ns
  same_members no_members ns f = tt
  same_members (member k j ms) ns f = (found k j (λ i e. same_values j i e) ns (f (k, normal j) (inl refl)), same_members ms ns (λ z h. f z (inr h)))

-- ---- to one normal form

-- distinct entries of one name are one
one_entry : (zs : List Entry) (w z : Entry) → Distinct zs → Has zs w → Has zs z → w.0 ≡ z.0 → w ≡ z
one_entry [] w z d p q e = absurd p
one_entry (x ∷ xs) w z d (inl p) (inl q) e = p ∙ sym q
one_entry (x ∷ xs) w z d (inl p) (inr q) e = absurd (lacks_has x.0 xs z d.0 q (ap (λ (m : Entry). m.0) (sym p) ∙ e))
one_entry (x ∷ xs) w z d (inr p) (inl q) e = absurd (lacks_has x.0 xs w d.0 p (ap (λ (m : Entry). m.0) (sym q) ∙ sym e))
one_entry (x ∷ xs) w z d (inr p) (inr q) e = one_entry xs w z d.1 p q e

placed : (k : List ℕ) (j : Json) → ((i : Json) → HasUniqueKeys i → AreSame j i → normal j ≡ normal i) → (ns : Members) → MembersHaveUniqueKeys ns → HasMember k (λ i. AreSame j i) ns → Has (normal_entries ns) (k, normal j)
placed k j form no_members u h = h
placed k j form (member l i ns) u (inl h) = let e = form i u.0 h.1 in inl (λ t. (h.0 t, e t))
placed k j form (member l i ns) u (inr h) = inr (placed k j form ns u.1 h)

-- an entry of the name
abbrev Named : List Entry → List ℕ → Type 0
Named xs k = (w : Entry) × Has xs w × (w.0 ≡ k)

has_name : (k : List ℕ) (ms : Members) → HasMember k (λ _. ⊤) ms → Named (normal_entries ms) k
has_name k no_members h = absurd h
has_name k (member l i ms) (inl h) = ((l, normal i), inl refl, sym h.0)
has_name k (member l i ms) (inr h) = let w = has_name k ms h in (w.0, inr w.1, w.2)

have_names : (ns ms : Members) → HaveNamesIn ns ms → (z : Entry) → Has (normal_entries ns) z → Named (normal_entries ms) z.0
have_names no_members ms h z p = absurd p
have_names (member k j ns) ms h z (inl e) = subst (λ (m : Entry). Named (normal_entries ms) m.0) (sym e) (has_name k ms h.0)
have_names (member k j ns) ms h z (inr p) = have_names ns ms h.1 z p

back : (xs ys : List Entry) → Distinct ys → ((z : Entry) → Has xs z → Has ys z) → ((z : Entry) → Has ys z → Named xs z.0) → (z : Entry) → Has ys z → Has xs z
back xs ys d f names z h = let w = names z h in subst (λ (m : Entry). Has xs m) (one_entry ys w.0 z d (f w.0 w.1) h w.2) w.1

mutual
  one_form : (j k : Json) → HasUniqueKeys j → HasUniqueKeys k → AreSame j k → normal j ≡ normal k
  one_form null null u v h = refl
  one_form (boolean a) (boolean b) u v h = ap boolean h
  one_form (number s) (number t) u v h = ap number ((texts_tell s t).0 h)
  one_form (string s) (string t) u v h = ap string h
  one_form (array js) (array ks) u v h = ap array (one_items js ks u v h)
  one_form (object ms) (object ns) u v h =
      let xs : List Entry = normal_entries ms in
      let ys : List Entry = normal_entries ns in
      let d : Distinct ys = distinct_keys ns v.0 in
      let f : (z : Entry) → Has xs z → Has ys z = one_members ms ns u.1 v.1 h.0 in
      ap (λ es. object (members_from es)) (any_order xs ys (distinct_keys ms u.0) d f (back xs ys d f (have_names ns ms h.1)))
  one_form j k u v h = absurd h

  one_items : (js ks : Items) → ItemsHaveUniqueKeys js → ItemsHaveUniqueKeys ks → ItemsAreSame js ks → normal_items js ≡ normal_items ks
  one_items no_items no_items u v h = refl
  one_items (item j js) (item k ks) u v h = let first = one_form j k u.0 v.0 h.0 in let rest = one_items js ks u.1 v.1 h.1 in (λ t. item (first t) (rest t))
  one_items js ks u v h = absurd h

  one_members : (ms ns : Members) → MembersHaveUniqueKeys ms → MembersHaveUniqueKeys ns → EachIsIn ms ns → (z : Entry) → Has (normal_entries ms) z → Has (normal_entries ns) z
  one_members no_members ns u v h z p = absurd p
  one_members (member k j ms) ns u v h z (inl e) = subst (λ (m : Entry). Has (normal_entries ns) m) (sym e) (placed k j (λ i w s. one_form j i u.0 w s) ns v h.0)
  one_members (member k j ms) ns u v h z (inr p) = one_members ms ns u.1 v h.1 z p

pub forms_tell : (j k : Json) → HasUniqueKeys j → HasUniqueKeys k → AreSame j k ↔ (normal j ≡ normal k)
forms_tell j k u v = (λ h. one_form j k u v h, λ e. same_values j k e)
