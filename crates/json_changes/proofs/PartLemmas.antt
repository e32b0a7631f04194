-- The parts of values: what holds of each, and how differences go on from one to the next.
use Rattle.std.proofs.Common.{◌≡◌, ℕ, zero, suc, ◌+◌, ◌<◌, ◌≤◌, List, [], ◌∷◌, ◌++◌, length, drop, get_or, map, min, ap, ap₂, ◌∙◌, refl, arith, inl, inr, ◌⊎◌, ⊎_elim}
use Rattle.std.proofs.lemmas.Bool.{cases_order}
use Rattle.std.proofs.lemmas.List.{drop_more, length-append}
use Rattle.std.specs.Borrow.{Bor}
use Rattle.json.specs.Find.{get_member}
use Rattle.json.specs.Json.{Json, Items, no_items, item, Members}
use Rattle.json.specs.Tree.{json_tokens, members_tokens, HasNumbers, ItemsHaveNumbers, MembersHaveNumbers}
use Rattle.json.specs.Value.{value_view, items_view, members_view}
use Rattle.json.specs.declared.value.Value.{Value}
use Rattle.json_normal.specs.Narrow.{HasNarrowNumbers, ItemsHaveNarrowNumbers, MembersHaveNarrowNumbers}
use Rattle.json_paths.specs.Paths.{name, place}
use Rattle.json_changes.specs.Differences.{Difference, inside, alone_items, added_member, added_members, beside, differences, item_differences, member_differences, only_left, only_right}

abbrev pub Pair : Type 0 → Type 0
Pair A = Bor (List ℕ) × Value A

-- ---- what holds of each part

pub numbers_at : {A : Type 0} → (xs : List (Value A)) (i : ℕ) (d : Value A) → i < length xs → ItemsHaveNumbers (items_view xs) → HasNumbers (value_view (get_or xs i d))
numbers_at [] i d h a = absurd (omega arith)
numbers_at (x ∷ xs) zero d h a = a.0
numbers_at (x ∷ xs) (suc i) d h a = numbers_at xs i d (omega arith) a.1

pub narrow_at : {A : Type 0} → (xs : List (Value A)) (i : ℕ) (d : Value A) → i < length xs → ItemsHaveNarrowNumbers (items_view xs) → HasNarrowNumbers (value_view (get_or xs i d))
narrow_at [] i d h a = absurd (omega arith)
narrow_at (x ∷ xs) zero d h a = a.0
narrow_at (x ∷ xs) (suc i) d h a = narrow_at xs i d (omega arith) a.1

pub member_numbers_at : {A : Type 0} → (ms : List (Pair A)) (i : ℕ) (d : Pair A) → i < length ms → MembersHaveNumbers (members_view ms) → HasNumbers (value_view (get_or ms i d).1)
member_numbers_at [] i d h a = absurd (omega arith)
member_numbers_at (m ∷ ms) zero d h a = a.0
member_numbers_at (m ∷ ms) (suc i) d h a = member_numbers_at ms i d (omega arith) a.1

pub member_narrow_at : {A : Type 0} → (ms : List (Pair A)) (i : ℕ) (d : Pair A) → i < length ms → MembersHaveNarrowNumbers (members_view ms) → HasNarrowNumbers (value_view (get_or ms i d).1)
member_narrow_at [] i d h a = absurd (omega arith)
member_narrow_at (m ∷ ms) zero d h a = a.0
member_narrow_at (m ∷ ms) (suc i) d h a = member_narrow_at ms i d (omega arith) a.1

-- a member's value has fewer tokens than the members by two at least
pub two_smaller : {A : Type 0} → (ms : List (Pair A)) (i : ℕ) (d : Pair A) → i < length ms → suc (length (json_tokens (value_view (get_or ms i d).1))) < length (members_tokens (members_view ms))
two_smaller [] i d h = absurd (omega arith)
two_smaller (m ∷ ms) zero d h = omega (arith, length-append (json_tokens (value_view m.1)) (members_tokens (members_view ms)), closes ms)
  where
    closes : {B : Type 0} → (ns : List (Pair B)) → 0 < length (members_tokens (members_view ns))
    closes [] = omega arith
    closes (n ∷ ns) = omega arith
two_smaller (m ∷ ms) (suc i) d h = omega (arith, length-append (json_tokens (value_view m.1)) (members_tokens (members_view ms)), two_smaller ms i d (omega arith))

-- ---- how differences go on

pub alone_step : {A : Type 0} → (alone : Json → Difference) (xs : List (Value A)) (i : ℕ) (d : Value A) → i < length xs
    → alone_items alone i (items_view (drop i xs)) ≡ inside (place i) (alone (value_view (get_or xs i d))) ∷ alone_items alone (i + 1) (items_view (drop (i + 1) xs))
alone_step alone xs i d h =
    let up : suc i ≡ i + 1 = omega arith in
    ap (λ ys. alone_items alone i (items_view ys)) (drop_more xs i d h)
    ∙ ap (λ n. inside (place i) (alone (value_view (get_or xs i d))) ∷ alone_items alone n (items_view (drop (i + 1) xs))) up

pub added_step : {A : Type 0} → (ms : Members) (ns : List (Pair A)) (i : ℕ) (d : Pair A) → i < length ns
    → added_members ms (members_view (drop i ns))
    ≡ added_member (get_or ns i d).0.now (value_view (get_or ns i d).1) (get_member (get_or ns i d).0.now ms) ++ added_members ms (members_view (drop (i + 1) ns))
added_step ms ns i d h = ap (λ ys. added_members ms (members_view ys)) (drop_more ns i d h)

pub items_step : {A B : Type 0} → (xs : List (Value A)) (ys : List (Value B)) (i : ℕ) (d : Value A) (e : Value B) → i < length xs → i < length ys
    → item_differences i (items_view (drop i xs)) (items_view (drop i ys))
    ≡ map (inside (place i)) (differences (value_view (get_or xs i d)) (value_view (get_or ys i e))) ++ item_differences (i + 1) (items_view (drop (i + 1) xs)) (items_view (drop (i + 1) ys))
items_step xs ys i d e h g =
    let up : suc i ≡ i + 1 = omega arith in
    ap₂ (λ us vs. item_differences i (items_view us) (items_view vs)) (drop_more xs i d h) (drop_more ys i e g)
    ∙ ap (λ n. map (inside (place i)) (differences (value_view (get_or xs i d)) (value_view (get_or ys i e))) ++ item_differences n (items_view (drop (i + 1) xs)) (items_view (drop (i + 1) ys))) up

pub members_step : {A : Type 0} → (ms : List (Pair A)) (ns : Members) (i : ℕ) (d : Pair A) → i < length ms
    → member_differences (members_view (drop i ms)) ns
    ≡ map (inside (name (get_or ms i d).0.now)) (beside (value_view (get_or ms i d).1) (λ k. differences (value_view (get_or ms i d).1) k) (get_member (get_or ms i d).0.now ns)) ++ member_differences (members_view (drop (i + 1) ms)) ns
members_step ms ns i d h = ap (λ ys. member_differences (members_view ys) ns) (drop_more ms i d h)

-- items beyond those that both sides have
rest_alone : (n : ℕ) (js ks : Items) → (js ≡ no_items) ⊎ (ks ≡ no_items) → item_differences n js ks ≡ alone_items only_left n js ++ alone_items only_right n ks
rest_alone n no_items no_items h = refl
rest_alone n no_items (item k ks) h = refl
rest_alone n (item j js) no_items h = refl
rest_alone n (item j js) (item k ks) (inl e) = absurd (cc)
rest_alone n (item j js) (item k ks) (inr e) = absurd (cc)

pub items_end : {A B : Type 0} → (xs : List (Value A)) (ys : List (Value B)) (i : ℕ) → i ≡ min (length xs) (length ys)
    → item_differences i (items_view (drop i xs)) (items_view (drop i ys)) ≡ alone_items only_left i (items_view (drop i xs)) ++ alone_items only_right i (items_view (drop i ys))
items_end xs ys i e = rest_alone i (items_view (drop i xs)) (items_view (drop i ys)) (one xs ys i (short (length xs) (length ys) e))
  where
    short : (a b : ℕ) → i ≡ min a b → (a ≤ i) ⊎ (b ≤ i)
    short a b m = ⊎_elim (λ (h : a ≡ b). inl (omega arith)) (⊎_elim (λ (h : a < b). inl (omega arith)) (λ (h : b < a). inr (omega arith))) (cases_order a b)

    none : {C : Type 0} → (zs : List (Value C)) (k : ℕ) → length zs ≤ k → items_view (drop k zs) ≡ no_items
    none [] zero h = refl
    none [] (suc k) h = refl
    none (z ∷ zs) zero h = absurd (omega arith)
    none (z ∷ zs) (suc k) h = none zs k (omega arith)

    one : {C D : Type 0} → (us : List (Value C)) (vs : List (Value D)) (k : ℕ) → (length us ≤ k) ⊎ (length vs ≤ k) → (items_view (drop k us) ≡ no_items) ⊎ (items_view (drop k vs) ≡ no_items)
    one us vs k (inl h) = inl (none us k h)
    one us vs k (inr h) = inr (none vs k h)
