-- Where parts are not the same, there is a difference.
use Rattle.std.proofs.Common.{◌≡◌, ℕ, zero, suc, ◌+◌, Bool, true, false, if◌then◌else◌, List, [], ◌∷◌, ◌++◌, map, Option, Some, None, option_and_then, inl, inr, refl, sym, ap, ◌∙◌, subst, arith}
use Rattle.std.specs.Bool.{⊤}
use Rattle.json.specs.Find.{get_member, get_item}
use Rattle.json.specs.Json.{Json, null, boolean, number, string, array, object, Items, no_items, item, Members, no_members, member}
use Rattle.json_normal.specs.Same.{HasMember}
use Rattle.json_paths.specs.Paths.{Path, Step, name, place, part_at}
use Rattle.json_changes.specs.Differences.{Difference, inside, apart, alone_items, added_member, added_members, beside, differences, is_same_leaf, item_differences, member_differences, only_left, only_right}
use Rattle.json_changes.specs.Laws.{PartsAreSame, IsAlong, OneIsAlong}
use Rattle.json_changes.proofs.NameLemmas.{has_member}
use Rattle.json_changes.proofs.SameLemmas.{same_values}

none : (n : ℕ) → n + 0 ≡ n
none n = omega arith

up : (n i : ℕ) → n + suc i ≡ suc n + i
up n i = omega arith

zero_add : (m : ℕ) → 0 + m ≡ m
zero_add m = omega arith

-- ---- lists of differences

first_has : (p : Path) (ds es : List Difference) → OneIsAlong p ds → OneIsAlong p (ds ++ es)
first_has p [] es h = absurd h
first_has p (d ∷ ds) es (inl h) = inl h
first_has p (d ∷ ds) es (inr h) = inr (first_has p ds es h)

second_has : (p : Path) (ds es : List Difference) → OneIsAlong p es → OneIsAlong p (ds ++ es)
second_has p [] es h = h
second_has p (d ∷ ds) es h = inr (second_has p ds es h)

inside_has : (s : Step) (p : Path) (ds : List Difference) → OneIsAlong p ds → OneIsAlong (s ∷ p) (map (inside s) ds)
inside_has s p [] h = absurd h
inside_has s p (d ∷ ds) (inl h) = inl (refl, h)
inside_has s p (d ∷ ds) (inr h) = inr (inside_has s p ds h)

along_nothing : (p : Path) → IsAlong p []
along_nothing [] = tt
along_nothing (s ∷ p) = tt

some_along : (ds : List Difference) → ¬ (ds ≡ []) → OneIsAlong [] ds
some_along [] h = absurd (h refl)
some_along (d ∷ ds) h = inl (along_nothing d.path)

-- ---- one side alone

left_has : (n i : ℕ) (s : Step) (p : Path) (js : Items) (j : Json) → get_item i js ≡ Some j → s ≡ place (n + i) → OneIsAlong (s ∷ p) (alone_items only_left n js)
left_has n i s p no_items j e is = absurd (cc)
left_has n zero s p (item l js) j e is = inl (sym (is ∙ ap place (none n)), tt)
left_has n (suc i) s p (item l js) j e is = inr (left_has (suc n) i s p js j e (is ∙ ap place (up n i)))

right_has : (n i : ℕ) (s : Step) (p : Path) (ks : Items) (k : Json) → get_item i ks ≡ Some k → s ≡ place (n + i) → OneIsAlong (s ∷ p) (alone_items only_right n ks)
right_has n i s p no_items k e is = absurd (cc)
right_has n zero s p (item l ks) k e is = inl (sym (is ∙ ap place (none n)), tt)
right_has n (suc i) s p (item l ks) k e is = inr (right_has (suc n) i s p ks k e (is ∙ ap place (up n i)))

abbrev Apart : Path → Option Json → Option Json → Type 0
Apart p o q = ¬ PartsAreSame (option_and_then (part_at p) o) (option_and_then (part_at p) q)

only_left_has : (n i : ℕ) (p : Path) (js : Items) (o : Option Json) → get_item i js ≡ o → Apart p o None → OneIsAlong (place (n + i) ∷ p) (alone_items only_left n js)
only_left_has n i p js None e h = absurd (h tt)
only_left_has n i p js (Some j) e h = left_has n i (place (n + i)) p js j e refl

only_right_has : (n i : ℕ) (p : Path) (ks : Items) (o : Option Json) → get_item i ks ≡ o → Apart p None o → OneIsAlong (place (n + i) ∷ p) (alone_items only_right n ks)
only_right_has n i p ks None e h = absurd (h tt)
only_right_has n i p ks (Some k) e h = right_has n i (place (n + i)) p ks k e refl

-- ---- members

member_has : (k : List ℕ) (j : Json) (p : Path) (ns : Members) (o : Option Json) → get_member k ns ≡ o → OneIsAlong p (beside j (λ i. differences j i) o)
    → (ms : Members) → HasMember k (λ i. i ≡ j) ms → OneIsAlong (name k ∷ p) (member_differences ms ns)
member_has k j p ns o is h no_members m = absurd m
member_has k j p ns o is h (member l i ms) (inl m) =
    let own : OneIsAlong p (beside i (λ x. differences i x) (get_member l ns)) =
    subst (λ (x : Option Json). OneIsAlong p (beside i (λ y. differences i y) x)) (sym is ∙ ap (λ x. get_member x ns) m.0) (subst (λ (x : Json). OneIsAlong p (beside x (λ y. differences x y) o)) (sym m.1) h) in
    first_has (name k ∷ p) (map (inside (name l)) (beside i (λ x. differences i x) (get_member l ns))) (member_differences ms ns)
    (subst (λ (x : List ℕ). OneIsAlong (name x ∷ p) (map (inside (name l)) (beside i (λ y. differences i y) (get_member l ns)))) (sym m.0) (inside_has (name l) p (beside i (λ x. differences i x) (get_member l ns)) own))
member_has k j p ns o is h (member l i ms) (inr m) =
    second_has (name k ∷ p) (map (inside (name l)) (beside i (λ x. differences i x) (get_member l ns))) (member_differences ms ns) (member_has k j p ns o is h ms m)

added_has : (k : List ℕ) (p : Path) (ms : Members) → get_member k ms ≡ None → (ns : Members) → HasMember k (λ _. ⊤) ns → OneIsAlong (name k ∷ p) (added_members ms ns)
added_has k p ms none no_members m = absurd m
added_has k p ms none (member l i ns) (inl m) =
    let own : added_member l i (get_member l ms) ≡ inside (name l) (only_right i) ∷ [] = ap (added_member l i) (ap (λ x. get_member x ms) (sym m.0) ∙ none) in
    first_has (name k ∷ p) (added_member l i (get_member l ms)) (added_members ms ns) (subst (λ (ds : List Difference). OneIsAlong (name k ∷ p) ds) (sym own) (inl (ap name (sym m.0), tt)))
added_has k p ms none (member l i ns) (inr m) = second_has (name k ∷ p) (added_member l i (get_member l ms)) (added_members ms ns) (added_has k p ms none ns m)

-- ---- the whole

-- values that are the same and have no parts
same_parts : (s : Step) (p : Path) (j k : Json) → is_same_leaf j k ≡ true → PartsAreSame (part_at (s ∷ p) j) (part_at (s ∷ p) k)
same_parts (name l) p null null e = tt
same_parts (place i) p null null e = tt
same_parts (name l) p (boolean a) (boolean b) e = tt
same_parts (place i) p (boolean a) (boolean b) e = tt
same_parts (name l) p (number a) (number b) e = tt
same_parts (place i) p (number a) (number b) e = tt
same_parts (name l) p (string a) (string b) e = tt
same_parts (place i) p (string a) (string b) e = tt
same_parts s p j k e = cc

leaf_has : (s : Step) (p : Path) (j k : Json) (b : Bool) → is_same_leaf j k ≡ b → ¬ PartsAreSame (part_at (s ∷ p) j) (part_at (s ∷ p) k) → OneIsAlong (s ∷ p) (if b then [] else apart (Some j) (Some k) ∷ [])
leaf_has s p j k true e h = absurd (h (same_parts s p j k e))
leaf_has s p j k false e h = inl tt

-- what is to show of the parts at a path
abbrev Finds : Path → Type 0
Finds p = (j k : Json) → ¬ PartsAreSame (part_at p j) (part_at p k) → OneIsAlong p (differences j k)

missed_items : (n i : ℕ) (p : Path) → Finds p → (js ks : Items) → Apart p (get_item i js) (get_item i ks) → OneIsAlong (place (n + i) ∷ p) (item_differences n js ks)
missed_items n i p f no_items no_items h = absurd (h tt)
missed_items n i p f no_items (item k ks) h = only_right_has n i p (item k ks) (get_item i (item k ks)) refl h
missed_items n i p f (item j js) no_items h = first_has (place (n + i) ∷ p) (alone_items only_left n (item j js)) [] (only_left_has n i p (item j js) (get_item i (item j js)) refl h)
missed_items n zero p f (item j js) (item k ks) h =
    first_has (place (n + 0) ∷ p) (map (inside (place n)) (differences j k)) (item_differences (suc n) js ks)
    (subst (λ (x : ℕ). OneIsAlong (place x ∷ p) (map (inside (place n)) (differences j k))) (sym (none n)) (inside_has (place n) p (differences j k) (f j k h)))
missed_items n (suc i) p f (item j js) (item k ks) h =
    second_has (place (n + suc i) ∷ p) (map (inside (place n)) (differences j k)) (item_differences (suc n) js ks)
    (subst (λ (x : ℕ). OneIsAlong (place x ∷ p) (item_differences (suc n) js ks)) (sym (up n i)) (missed_items (suc n) i p f js ks h))

missed_member : (k : List ℕ) (p : Path) → Finds p → (ms ns : Members) (o q : Option Json) → get_member k ms ≡ o → get_member k ns ≡ q → Apart p o q → OneIsAlong (name k ∷ p) (member_differences ms ns ++ added_members ms ns)
missed_member k p f ms ns None None e g h = absurd (h tt)
missed_member k p f ms ns None (Some i) e g h = second_has (name k ∷ p) (member_differences ms ns) (added_members ms ns) (added_has k p ms e ns (has_member k (λ _. ⊤) ns i g tt))
missed_member k p f ms ns (Some j) None e g h =
    first_has (name k ∷ p) (member_differences ms ns) (added_members ms ns) (member_has k j p ns None g (inl tt) ms (has_member k (λ i. i ≡ j) ms j e refl))
missed_member k p f ms ns (Some j) (Some i) e g h =
    first_has (name k ∷ p) (member_differences ms ns) (added_members ms ns) (member_has k j p ns (Some i) g (f j i h) ms (has_member k (λ x. x ≡ j) ms j e refl))

missed : (p : Path) (j k : Json) → ¬ PartsAreSame (part_at p j) (part_at p k) → OneIsAlong p (differences j k)
missed [] j k h = some_along (differences j k) (λ e. h (same_values j k e))
missed (place i ∷ p) (array js) (array ks) h = subst (λ (n : ℕ). OneIsAlong (place n ∷ p) (item_differences 0 js ks)) (zero_add i) (missed_items 0 i p (λ j k g. missed p j k g) js ks h)
missed (name k ∷ p) (array js) (array ks) h = absurd (h tt)
missed (place i ∷ p) (object ms) (object ns) h = absurd (h tt)
missed (name k ∷ p) (object ms) (object ns) h = missed_member k p (λ j i g. missed p j i g) ms ns (get_member k ms) (get_member k ns) refl refl h
missed (s ∷ p) j k h = leaf_has s p j k (is_same_leaf j k) refl h

pub none_is_missed : (j k : Json) (p : Path) → ¬ PartsAreSame (part_at p j) (part_at p k) → OneIsAlong p (differences j k)
none_is_missed j k p h = missed p j k h
