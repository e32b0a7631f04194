-- No path of a difference goes on from that of another.
use Rattle.std.proofs.Common.{◌≡◌, ℕ, suc, ◌≤◌, Bool, true, false, if◌then◌else◌, List, [], ◌∷◌, ◌++◌, map, Option, Some, None, IfSome, inl, inr, refl, ap, sym, ◌∙◌, arith}
use Rattle.std.proofs.lemmas.List.Elements.{All-cons}
use Rattle.std.proofs.lemmas.List.Kept.{AllPairs-cons}
use Rattle.std.specs.Bool.{⊤}
use Rattle.std.specs.List.{All, AllByRecursion, AllPairs}
use Rattle.json.specs.Find.{get_member}
use Rattle.json.specs.Json.{Json, array, object, Items, no_items, item, Members, no_members, member}
use Rattle.json.specs.Strict.{keys, AreDistinct, HasUniqueKeys, ItemsHaveUniqueKeys, MembersHaveUniqueKeys}
use Rattle.json_normal.specs.Same.{HasMember}
use Rattle.json_paths.specs.Paths.{Path, Step, name, place}
use Rattle.json_changes.specs.Differences.{Difference, inside, apart, alone_items, added_member, added_members, beside, differences, is_same_leaf, item_differences, member_differences, only_left, only_right}
use Rattle.json_changes.specs.Laws.{IsAlong}
use Rattle.json_changes.proofs.FoundLemmas.{unique_found}
use Rattle.json_changes.proofs.NameLemmas.{lacks, not_found, rest_distinct, some_found}

abbrev Off : Difference → Difference → Type 0
Off d e = ¬ IsAlong d.path e.path

abbrev OffAll : Difference → List Difference → Type 0
OffAll d es = AllByRecursion (Off d) es

abbrev Pairwise : List Difference → Type 0
Pairwise [] = ⊤
Pairwise (d ∷ ds) = OffAll d ds × Pairwise ds

-- ---- the first steps of paths

abbrev Starts : (Step → Type 0) → Path → Type 0
Starts P [] = ⊥
Starts P (s ∷ p) = P s

abbrev Begin : (Step → Type 0) → List Difference → Type 0
Begin P ds = AllByRecursion (λ d. Starts P d.path) ds

begin_both : (P : Step → Type 0) (ds es : List Difference) → Begin P ds → Begin P es → Begin P (ds ++ es)
begin_both P [] es h g = g
begin_both P (d ∷ ds) es h g = (h.0, begin_both P ds es h.1 g)

begin_inside : (P : Step → Type 0) (s : Step) → P s → (ds : List Difference) → Begin P (map (inside s) ds)
begin_inside P s h [] = tt
begin_inside P s h (d ∷ ds) = (h, begin_inside P s h ds)

starts_weaker : (P Q : Step → Type 0) → ((s : Step) → P s → Q s) → (p : Path) → Starts P p → Starts Q p
starts_weaker P Q f [] h = h
starts_weaker P Q f (s ∷ p) h = f s h

begin_weaker : (P Q : Step → Type 0) → ((s : Step) → P s → Q s) → (ds : List Difference) → Begin P ds → Begin Q ds
begin_weaker P Q f [] h = tt
begin_weaker P Q f (d ∷ ds) h = (starts_weaker P Q f d.path h.0, begin_weaker P Q f ds h.1)

-- ---- pairs

-- steps of the one kind are none of the other
abbrev AreOther : (Step → Type 0) → (Step → Type 0) → Type 0
AreOther P Q = (s t : Step) → P s → Q t → ¬ (s ≡ t)

off_paths : (P Q : Step → Type 0) → AreOther P Q → (p q : Path) → Starts P p → Starts Q q → ¬ IsAlong p q
off_paths P Q f [] q a b = absurd a
off_paths P Q f (s ∷ p) [] a b = absurd b
off_paths P Q f (s ∷ p) (t ∷ q) a b = λ h. f s t a b h.0

off_all : (P Q : Step → Type 0) → AreOther P Q → (d : Difference) → Starts P d.path → (es : List Difference) → Begin Q es → OffAll d es
off_all P Q f d a [] b = tt
off_all P Q f d a (e ∷ es) b = (off_paths P Q f d.path e.path a b.0, off_all P Q f d a es b.1)

off_both : (d : Difference) (ds es : List Difference) → OffAll d ds → OffAll d es → OffAll d (ds ++ es)
off_both d [] es h g = g
off_both d (e ∷ ds) es h g = (h.0, off_both d ds es h.1 g)

pair_both : (P Q : Step → Type 0) → AreOther P Q → (ds es : List Difference) → Begin P ds → Begin Q es → Pairwise ds → Pairwise es → Pairwise (ds ++ es)
pair_both P Q f [] es a b h g = g
pair_both P Q f (d ∷ ds) es a b h g = (off_both d ds es h.0 (off_all P Q f d a.0 es b), pair_both P Q f ds es a.1 b h.1 g)

off_inside : (s : Step) (d : Difference) (ds : List Difference) → OffAll d ds → OffAll (inside s d) (map (inside s) ds)
off_inside s d [] h = tt
off_inside s d (e ∷ ds) h = (λ g. h.0 g.1, off_inside s d ds h.1)

pair_inside : (s : Step) (ds : List Difference) → Pairwise ds → Pairwise (map (inside s) ds)
pair_inside s [] h = tt
pair_inside s (d ∷ ds) h = (off_inside s d ds h.0, pair_inside s ds h.1)

pair_leaf : (b : Bool) (d : Difference) → Pairwise (if b then [] else d ∷ [])
pair_leaf true d = tt
pair_leaf false d = (tt, tt)

-- ---- items

abbrev FromPlace : ℕ → Step → Type 0
FromPlace n (name k) = ⊥
FromPlace n (place m) = n ≤ m

later : (n : ℕ) (s : Step) → FromPlace (suc n) s → FromPlace n s
later n (name k) h = h
later n (place m) h = omega arith

other_place : (n : ℕ) → AreOther (λ s. s ≡ place n) (FromPlace (suc n))
other_place n s (name k) e h = absurd h
other_place n s (place m) e h = λ g. let same : place n ≡ place m = sym e ∙ g in let one : n ≡ m = cc in absurd (omega arith)

begin_alone : (alone : Json → Difference) (n : ℕ) (js : Items) → Begin (FromPlace n) (alone_items alone n js)
begin_alone alone n no_items = tt
begin_alone alone n (item j js) = (omega arith, begin_weaker (FromPlace (suc n)) (FromPlace n) (later n) (alone_items alone (suc n) js) (begin_alone alone (suc n) js))

pair_alone : (alone : Json → Difference) (n : ℕ) (js : Items) → Pairwise (alone_items alone n js)
pair_alone alone n no_items = tt
pair_alone alone n (item j js) =
    (off_all (λ s. s ≡ place n) (FromPlace (suc n)) (other_place n) (inside (place n) (alone j)) refl (alone_items alone (suc n) js) (begin_alone alone (suc n) js), pair_alone alone (suc n) js)

begin_items : (n : ℕ) (js ks : Items) → Begin (FromPlace n) (item_differences n js ks)
begin_items n no_items no_items = tt
begin_items n no_items (item k ks) = begin_alone only_right n (item k ks)
begin_items n (item j js) no_items = begin_both (FromPlace n) (alone_items only_left n (item j js)) [] (begin_alone only_left n (item j js)) tt
begin_items n (item j js) (item k ks) =
    begin_both (FromPlace n) (map (inside (place n)) (differences j k)) (item_differences (suc n) js ks) (begin_inside (FromPlace n) (place n) (omega arith) (differences j k))
    (begin_weaker (FromPlace (suc n)) (FromPlace n) (later n) (item_differences (suc n) js ks) (begin_items (suc n) js ks))

-- ---- members

abbrev NameIn : Members → Step → Type 0
NameIn ms (name k) = HasMember k (λ _. ⊤) ms
NameIn ms (place m) = ⊥

abbrev Lacking : Members → Step → Type 0
Lacking ms (name k) = get_member k ms ≡ None
Lacking ms (place m) = ⊥

further : (l : List ℕ) (i : Json) (ms : Members) (s : Step) → NameIn ms s → NameIn (member l i ms) s
further l i ms (name k) h = inr h
further l i ms (place m) h = h

other_name : (k : List ℕ) (j : Json) (ms : Members) → AreDistinct (keys (member k j ms)) → AreOther (λ s. s ≡ name k) (NameIn ms)
other_name k j ms u s (place m) e h = absurd h
other_name k j ms u s (name l) e h = λ g.
    let same : name k ≡ name l = sym e ∙ g in let one : l ≡ k = cc in
    let gone : get_member l ms ≡ None = not_found l ms (lacks l k j ms u one) in let found = some_found l (λ _. ⊤) ms h in let here = found.1 in cc

other_added : (ms : Members) → AreOther (NameIn ms) (Lacking ms)
other_added ms (place m) t h g = absurd h
other_added ms (name k) (place m) h g = absurd g
other_added ms (name k) (name l) h g = λ e.
    let same : k ≡ l = cc in let found = some_found k (λ _. ⊤) ms h in let here = found.1 in let none : get_member k ms ≡ None = ap (λ x. get_member x ms) same ∙ g in cc

begin_members : (ms ns : Members) → Begin (NameIn ms) (member_differences ms ns)
begin_members no_members ns = tt
begin_members (member k j ms) ns =
    begin_both (NameIn (member k j ms)) (map (inside (name k)) (beside j (λ i. differences j i) (get_member k ns))) (member_differences ms ns)
    (begin_inside (NameIn (member k j ms)) (name k) (inl (refl, tt)) (beside j (λ i. differences j i) (get_member k ns)))
    (begin_weaker (NameIn ms) (NameIn (member k j ms)) (further k j ms) (member_differences ms ns) (begin_members ms ns))

begin_added_one : (P : Step → Type 0) (k : List ℕ) (i : Json) (o : Option Json) → (o ≡ None → P (name k)) → Begin P (added_member k i o)
begin_added_one P k i None f = (f refl, tt)
begin_added_one P k i (Some j) f = tt

begin_added : (ms ns : Members) → Begin (NameIn ns) (added_members ms ns)
begin_added ms no_members = tt
begin_added ms (member k i ns) =
    begin_both (NameIn (member k i ns)) (added_member k i (get_member k ms)) (added_members ms ns) (begin_added_one (NameIn (member k i ns)) k i (get_member k ms) (λ e. inl (refl, tt)))
    (begin_weaker (NameIn ns) (NameIn (member k i ns)) (further k i ns) (added_members ms ns) (begin_added ms ns))

begin_lacking : (ms ns : Members) → Begin (Lacking ms) (added_members ms ns)
begin_lacking ms no_members = tt
begin_lacking ms (member k i ns) =
    begin_both (Lacking ms) (added_member k i (get_member k ms)) (added_members ms ns) (begin_added_one (Lacking ms) k i (get_member k ms) (λ e. e)) (begin_lacking ms ns)

pair_added_one : (k : List ℕ) (i : Json) (o : Option Json) → Pairwise (added_member k i o)
pair_added_one k i None = (tt, tt)
pair_added_one k i (Some j) = tt

pair_added : (ms ns : Members) → AreDistinct (keys ns) → Pairwise (added_members ms ns)
pair_added ms no_members u = tt
pair_added ms (member k i ns) u =
    pair_both (λ s. s ≡ name k) (NameIn ns) (other_name k i ns u) (added_member k i (get_member k ms)) (added_members ms ns)
    (begin_added_one (λ s. s ≡ name k) k i (get_member k ms) (λ e. refl)) (begin_added ms ns) (pair_added_one k i (get_member k ms)) (pair_added ms ns (rest_distinct k i ns u))

pair_beside : (j : Json) (between : Json → List Difference) → ((i : Json) → HasUniqueKeys i → Pairwise (between i)) → (o : Option Json) → IfSome o HasUniqueKeys → Pairwise (beside j between o)
pair_beside j between f None u = (tt, tt)
pair_beside j between f (Some i) u = f i u

-- ---- the whole

mutual
  pairs : (j k : Json) → HasUniqueKeys j → HasUniqueKeys k → Pairwise (differences j k)
  pairs (array js) (array ks) u v = pair_items 0 js ks u v
  pairs (object ms) (object ns) u v =
      pair_both (NameIn ms) (Lacking ms) (other_added ms) (member_differences ms ns) (added_members ms ns) (begin_members ms ns) (begin_lacking ms ns) (pair_members ms ns u.0 u.1 v.1) (pair_added ms ns v.0)
  pairs j k u v = pair_leaf (is_same_leaf j k) (apart (Some j) (Some k))

  pair_items : (n : ℕ) (js ks : Items) → ItemsHaveUniqueKeys js → ItemsHaveUniqueKeys ks → Pairwise (item_differences n js ks)
  pair_items n no_items no_items u v = tt
  pair_items n no_items (item k ks) u v = pair_alone only_right n (item k ks)
  pair_items n (item j js) no_items u v =
      pair_both (FromPlace n) (λ _. ⊥) (λ s t h g. absurd g) (alone_items only_left n (item j js)) [] (begin_alone only_left n (item j js)) tt (pair_alone only_left n (item j js)) tt
  pair_items n (item j js) (item k ks) u v =
      pair_both (λ s. s ≡ place n) (FromPlace (suc n)) (other_place n) (map (inside (place n)) (differences j k)) (item_differences (suc n) js ks)
      (begin_inside (λ s. s ≡ place n) (place n) refl (differences j k)) (begin_items (suc n) js ks) (pair_inside (place n) (differences j k) (pairs j k u.0 v.0)) (pair_items (suc n) js ks u.1 v.1)

  pair_members : (ms ns : Members) → AreDistinct (keys ms) → MembersHaveUniqueKeys ms → MembersHaveUniqueKeys ns → Pairwise (member_differences ms ns)
  pair_members no_members ns d u v = tt
  pair_members (member k j ms) ns d u v =
      let own : List Difference = beside j (λ i. differences j i) (get_member k ns) in
      pair_both (λ s. s ≡ name k) (NameIn ms) (other_name k j ms d) (map (inside (name k)) own) (member_differences ms ns)
      (begin_inside (λ s. s ≡ name k) (name k) refl own) (begin_members ms ns) (pair_inside (name k) own (pair_beside j (λ i. differences j i) (λ i w. pairs j i u.0 w) (get_member k ns) (unique_found k ns v)))
      (pair_members ms ns (rest_distinct k j ms d) u.1 v)

off_each : (d : Difference) (es : List Difference) → OffAll d es → All (Off d) es
off_each d [] h = λ k e l. absurd (omega arith)
off_each d (e ∷ es) h = All-cons (Off d) e es h.0 (off_each d es h.1)

each_pair : (ds : List Difference) → Pairwise ds → AllPairs Off ds
each_pair [] h = λ i k d p q. absurd (omega arith)
each_pair (d ∷ ds) h = AllPairs-cons Off d ds (off_each d ds h.0) (each_pair ds h.1)

pub paths_part : (j k : Json) → HasUniqueKeys j → HasUniqueKeys k → AllPairs Off (differences j k)
paths_part j k u v = each_pair (differences j k) (pairs j k u v)
