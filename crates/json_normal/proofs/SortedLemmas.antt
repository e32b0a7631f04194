-- What a sort of the members leaves is their one order.
use Rattle.std.proofs.Common.{◌≡◌, ◌≢◌, ℕ, suc, ◌+◌, ◌<◌, Bool, true, false, List, [], ◌∷◌, inl, inr, ap, sym, ◌∙◌, subst, refl, length, get_or, arith}
use Rattle.std.specs.Prelude.{map}
use Rattle.std.specs.Borrow.{Bor}
use Rattle.std.specs.List.{All, AllByRecursion, IsDistinct}
use Rattle.std.specs.List.Sorted.{IsPermutation, IsSortedByKey}
use Rattle.std.specs.Ordering.{nat_cmp, is_eq, is_lt, ordering_reverse}
use Rattle.std.specs.Cmp.Lexicographic.{slice_cmp}
use Rattle.std.specs.declared.cmp.Ordering.{Ordering}
use Rattle.std.specs.declared.cmp.Ordering.TheVariants.{Less, Equal, Greater}
use Rattle.std.proofs.lemmas.Cmp.{nat_list_cmp_total, tied_itself}
use Rattle.std.proofs.lemmas.List.Elements.{All-cons, All-head, All-tail}
use Rattle.std.proofs.lemmas.List.Sorted.{All-permutation, IsPermutation-map, IsPermutation-sym}
use Rattle.std.proofs.lemmas.Map.Keys.{IsDistinct-IsPermutation}
use Rattle.std.proofs.lemmas.Map.Lookups.{exact_bytes}
use Rattle.json.specs.Json.{Members, no_members, member}
use Rattle.json.specs.Strict.{keys, AreDistinct}
use Rattle.json.specs.Value.{value_view, members_view}
use Rattle.json.specs.declared.value.Value.{Value}
use Rattle.json_normal.specs.Normal.{Entry, in_order, normal, normal_entries, entry_of}
use Rattle.json_normal.proofs.OrderLemmas.{Rising, Has, Lacks, Distinct, order_is, above_trans, flipped}

abbrev c : List ℕ → List ℕ → Ordering
c = slice_cmp nat_cmp

-- ---- distinct keys

lacks_keys : (k : List ℕ) (ms : Members) → ((i : ℕ) (d : List ℕ) → i < length (keys ms) → k ≢ get_or (keys ms) i d) → Lacks k (normal_entries ms)
lacks_keys k no_members f = tt
lacks_keys k (member l j ms) f = (f 0 [] (omega arith), lacks_keys k ms (λ i d h. f (suc i) d (omega arith)))

pub distinct_keys : (ms : Members) → AreDistinct (keys ms) → Distinct (normal_entries ms)
distinct_keys no_members h = tt
distinct_keys (member k j ms) h = (
  lacks_keys k ms (λ i d p. h 0 (suc i) d (omega arith) (omega arith)),
  distinct_keys ms (λ i l d p q. h (suc i) (suc l) d (omega arith) (omega arith)),
)

abbrev same_key : Entry → Entry → Bool
same_key x y = is_eq (c x.0 y.0)

reverse_tells : (o : Ordering) → is_eq (ordering_reverse o) ≡ is_eq o
reverse_tells Less = refl
reverse_tells Equal = refl
reverse_tells Greater = refl

flips : (x y : Entry) → same_key x y ≡ same_key y x
flips x y = ap is_eq (nat_list_cmp_total.antisymm x.0 y.0) ∙ reverse_tells (c y.0 x.0)

differs : (k l : List ℕ) (o : Ordering) → c k l ≡ o → k ≢ l → is_eq o ≡ false
differs k l Less e n = refl
differs k l Equal e n = absurd (n (exact_bytes k l e))
differs k l Greater e n = refl

tells_apart : (k l : List ℕ) → is_eq (c k l) ≡ false → k ≢ l
tells_apart k l h e = let same : c k k ≡ Equal = tied_itself nat_list_cmp_total k in let here : is_eq (c k l) ≡ true = ap (λ m. is_eq (c k m)) (sym e) ∙ ap is_eq same in cc

all_differ : (x : Entry) (ns : List Entry) → Lacks x.0 ns → AllByRecursion (λ y. same_key x y ≡ false) ns
all_differ x [] h = tt
all_differ x (n ∷ ns) h = (differs x.0 n.0 (c x.0 n.0) refl h.0, all_differ x ns h.1)

all_lack : (x : Entry) (ns : List Entry) → AllByRecursion (λ y. same_key x y ≡ false) ns → Lacks x.0 ns
all_lack x [] h = tt
all_lack x (n ∷ ns) h = (tells_apart x.0 n.0 h.0, all_lack x ns h.1)

to_std : (ms : List Entry) → Distinct ms → IsDistinct same_key ms
unfolding IsDistinct
to_std [] d = tt
to_std (m ∷ ms) d = (all_differ m ms d.0, to_std ms d.1)

from_std : (ms : List Entry) → IsDistinct same_key ms → Distinct ms
unfolding IsDistinct
from_std [] d = tt
from_std (m ∷ ms) d = (all_lack m ms d.0, from_std ms d.1)

pub distinct_moved : (xs ys : List Entry) → IsPermutation xs ys → Distinct xs → Distinct ys
distinct_moved xs ys p d = from_std ys (IsDistinct-IsPermutation same_key flips xs ys p (to_std xs d))

-- ---- the same members

all_own : (P : Entry → Type 0) (xs : List Entry) → ((z : Entry) → Has xs z → P z) → All P xs
all_own P [] f = λ k d h. absurd (omega arith)
all_own P (x ∷ xs) f = All-cons P x xs (f x (inl refl)) (all_own P xs (λ z h. f z (inr h)))

all_has : (P : Entry → Type 0) (xs : List Entry) (z : Entry) → All P xs → Has xs z → P z
all_has P [] z a h = absurd h
all_has P (x ∷ xs) z a (inl e) = subst P (sym e) (All-head P x xs a)
all_has P (x ∷ xs) z a (inr h) = all_has P xs z (All-tail P x xs a) h

pub has_moved : (xs ys : List Entry) (z : Entry) → IsPermutation xs ys → Has ys z → Has xs z
has_moved xs ys z p h = all_has (Has xs) ys z (All-permutation (Has xs) xs ys p (all_own (Has xs) xs (λ w g. g))) h

-- ---- the order that the sort leaves

below_next : (k l : List ℕ) (o : Ordering) → c k l ≡ o → k ≢ l → is_lt (c l k) ≡ false → c k l ≡ Less
below_next k l Less e n h = e
below_next k l Equal e n h = absurd (n (exact_bytes k l e))
below_next k l Greater e n h = let less : c l k ≡ Less = flipped k l e in let here : is_lt (c l k) ≡ true = ap is_lt less in absurd (cc)

abbrev pub Pair : Type 0 → Type 0
Pair A = Bor (List ℕ) × Value A

abbrev pub Ref : Type 0 → Type 0
Ref A = Bor (Bor (List ℕ) × Value A)

abbrev key_of : {A : Type 0} → Ref A → List ℕ
key_of m = m.now.0.now

further : {A : Type 0} → (v w : Ref A) (ws : List (Ref A)) (k : ℕ) (e : Ref A) → is_lt (c (key_of (get_or (v ∷ w ∷ ws) (suc k + 1) e)) (key_of (get_or (v ∷ w ∷ ws) (suc k) e))) ≡ false
    → is_lt (c (key_of (get_or (w ∷ ws) (k + 1) e)) (key_of (get_or (w ∷ ws) k e))) ≡ false
further {A = A} v w ws k e h =
    let up : suc k + 1 ≡ suc (k + 1) = omega arith in
    subst (λ (n : ℕ). is_lt (c (key_of {A = A} (get_or (v ∷ w ∷ ws) n e)) (key_of {A = A} (get_or (w ∷ ws) k e))) ≡ false) up h

rises : {A : Type 0} → (vs : List (Ref A)) → ((k : ℕ) (d : Ref A) → k + 1 < length vs → is_lt (c (key_of (get_or vs (k + 1) d)) (key_of (get_or vs k d))) ≡ false) → Distinct (map entry_of vs) → Rising (map entry_of vs)
rises [] h d = tt
rises (v ∷ []) h d = (tt, tt)
rises {A = A} (v ∷ w ∷ ws) h d =
    let less : c (key_of v) (key_of w) ≡ Less = below_next (key_of v) (key_of w) (c (key_of v) (key_of w)) refl d.0.0 (h 0 v (omega arith)) in
    let next : (k : ℕ) (e : Ref A) → k + 1 < length (w ∷ ws) → is_lt (c (key_of {A = A} (get_or (w ∷ ws) (k + 1) e)) (key_of {A = A} (get_or (w ∷ ws) k e))) ≡ false = λ k e p. further v w ws k e (h (suc k) e (omega arith)) in
    let rest : Rising (map entry_of (w ∷ ws)) = rises (w ∷ ws) next d.1 in
    ((less, above_trans (key_of v) (key_of w) (map entry_of ws) less rest.0), rest)

abbrev plain : {A : Type 0} → Bor (List ℕ) × Value A → Entry
plain m = (m.0.now, normal (value_view m.1))

entries_plain : {A : Type 0} → (ms : List (Bor (List ℕ) × Value A)) → map plain ms ≡ normal_entries (members_view ms)
entries_plain [] = refl
entries_plain (m ∷ ms) = ap (λ es. plain m ∷ es) (entries_plain ms)

refs_plain : {A : Type 0} → (vs : List (Ref A)) → map plain (map (λ m. m.now) vs) ≡ map entry_of vs
refs_plain [] = refl
refs_plain (v ∷ vs) = ap (λ es. entry_of v ∷ es) (refs_plain vs)

pub sorted_is : {A : Type 0} → (ms : List (Bor (List ℕ) × Value A)) (vs : List (Ref A)) → IsPermutation ms (map (λ m. m.now) vs)
    → IsSortedByKey (λ m. m.now.0.now) (slice_cmp nat_cmp) vs → AreDistinct (keys (members_view ms)) → map entry_of vs ≡ in_order (normal_entries (members_view ms))
sorted_is {A = A} ms vs p s d =
    let xs : List Entry = normal_entries (members_view ms) in
    let ys : List Entry = map entry_of vs in
    let moved : IsPermutation xs ys = subst (λ (es : List Entry). IsPermutation es ys) (entries_plain ms)
    (subst (λ (es : List Entry). IsPermutation (map plain ms) es) (refs_plain vs) (IsPermutation-map plain ms (map (λ m. m.now) vs) p)) in
    let own : Distinct xs = distinct_keys (members_view ms) d in
    let up : Rising ys = rises vs (λ k e h. s k e (omega arith) h) (distinct_moved xs ys moved own) in
    order_is xs ys own up (λ z h. has_moved ys xs z (IsPermutation-sym xs ys moved) h) (λ z h. has_moved xs ys z moved h)
