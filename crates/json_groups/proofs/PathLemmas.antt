-- The parts at a path, where there is one part more.
use Rattle.std.proofs.Common.{◌≡◌, ◌<◌, ◌≤◌, ◌+◌, ◌++◌, ◌∷◌, ◌∙◌, ◌⊎◌, inl, inr, ℕ, zero, suc, Bool, true, false, if◌then◌else◌, List, [], length, map, get_or, refl, sym, ap, subst, arith, append-nil, append_assoc, length-append, rules}
use Rattle.std.proofs.lemmas.Bool.Decides.{Decides-eqb}
use Rattle.std.proofs.lemmas.Grind.{flat_map-append}
use Rattle.std.proofs.lemmas.List.{map-append}
use Rattle.std.proofs.lemmas.List.Elements.{filter-append}
use Rattle.std.proofs.lemmas.List.Folds.{list_any-append, list_any_at}
use Rattle.std.proofs.lemmas.List.Sums.{fold-append, sum_by-append}
use Rattle.std.proofs.lemmas.Slice.Eq.{bytes_eq-Decides}
use Rattle.std.specs.List.{count_by, filter, flat_map, fold, list_any}
use Rattle.std.specs.Prelude.{◌==◌, ◌||◌, cond}
use Rattle.std.specs.Str.{bytes_eq}
use Rattle.json.specs.Json.{Json}
use Rattle.json_parts.specs.Parts.{Part}
use Rattle.json_groups.specs.Groups.{AreCounted, all_parts, has, is_at, paths_of, values_at, with_path}

-- ---- whether there is a part

or_false : (a b : Bool) → (a || b) ≡ false → (a ≡ false) × (b ≡ false)
or_false true b e = absurd (cc)
or_false false b e = (refl, e)

or_no : (a b : Bool) → b ≡ false → (a || b) ≡ a
or_no true b e = refl
or_no false b e = e

or_yes : (a b : Bool) → b ≡ true → (a || b) ≡ true
or_yes true b e = refl
or_yes false b e = e

one_any : {X : Type 0} (p : X → Bool) (x : X) → list_any p (x ∷ []) ≡ p x
one_any p x = by (p x)
  where
    by : (b : Bool) → (b || false) ≡ b
    by true = refl
    by false = refl

pub any_more : {X : Type 0} (p : X → Bool) (xs : List X) (x : X) → list_any p (xs ++ x ∷ []) ≡ (list_any p xs || p x)
any_more p xs x = list_any-append p xs (x ∷ []) ∙ ap (λ b. list_any p xs || b) (one_any p x)

-- ---- the values at a path

pub values_same : (path : List ℕ) (parts : List Part) (x : Part) → is_at path x ≡ true → values_at path (parts ++ x ∷ []) ≡ values_at path parts ++ x.value ∷ []
values_same path parts x e =
    ap (map (λ (p : Part). p.value)) (filter-append (is_at path) parts (x ∷ []) ∙ ap (λ b. filter (is_at path) parts ++ cond b (x ∷ []) []) e)
    ∙ map-append (λ (p : Part). p.value) (filter (is_at path) parts) (x ∷ [])

pub values_other : (path : List ℕ) (parts : List Part) (x : Part) → is_at path x ≡ false → values_at path (parts ++ x ∷ []) ≡ values_at path parts
values_other path parts x e =
    ap (map (λ (p : Part). p.value)) (filter-append (is_at path) parts (x ∷ []) ∙ ap (λ b. filter (is_at path) parts ++ cond b (x ∷ []) []) e ∙ append-nil (filter (is_at path) parts))

pub values_none : (path : List ℕ) (parts : List Part) → has path parts ≡ false → values_at path parts ≡ []
values_none path [] e = refl
values_none path (x ∷ parts) e =
    let both : (is_at path x ≡ false) × (has path parts ≡ false) = or_false (is_at path x) (has path parts) e in
    ap (λ b. map (λ (p : Part). p.value) (cond b (x ∷ filter (is_at path) parts) (filter (is_at path) parts))) both.0 ∙ values_none path parts both.1

-- ---- all parts

pub all_next : (done : List (List Part)) (parts : List Part) → all_parts (done ++ parts ∷ []) ≡ all_parts done ++ parts
all_next done parts = flat_map-append (λ p. p) done (parts ∷ []) ∙ ap (λ ps. all_parts done ++ ps) (append-nil parts)

pub has_none : (path : List ℕ) (done : List (List Part)) → has path (all_parts done) ≡ false → count_by (has path) done ≡ 0
has_none path [] e = refl
has_none path (parts ∷ done) e =
    let both : (has path parts ≡ false) × (has path (all_parts done) ≡ false) =
    or_false (has path parts) (has path (all_parts done)) (sym (list_any-append (is_at path) parts (all_parts done)) ∙ e) in
    let rest : count_by (has path) done ≡ 0 = has_none path done both.1 in
    let front : 0 + cond (has path parts) 1 0 ≡ 0 = ap (λ b. 0 + cond b 1 0) both.0 in
    omega (arith, sum_by-append (λ p. cond (has path p) 1 0) (parts ∷ []) done, rest, front)

-- ---- the numbers of a group

same_next : (last n : ℕ) → last ≤ n → false ≡ (last == suc n)
same_next last n low = by (last == suc n) refl
  where
    by : (b : Bool) → (last == suc n) ≡ b → false ≡ b
    by false e = refl
    by true e = absurd (let same : last ≡ suc n = (Decides-eqb last (suc n)).0 e in omega (arith, same, low))

pub counted_next : (documents : List (List Part)) (path : List ℕ) (n last : ℕ) → n ≡ count_by (has path) documents → last ≤ length documents → AreCounted documents [] path n last
counted_next documents path n last is low = record {
  documents_are = omega (arith, is);
  last_is = same_next last (length documents) low;
  within = omega (arith, low);
}

pub counted_end : (done : List (List Part)) (parts : List Part) (path : List ℕ) (n last : ℕ) → AreCounted done parts path n last
    → (n ≡ count_by (has path) (done ++ parts ∷ [])) × (last ≤ length (done ++ parts ∷ []))
counted_end done parts path n last c =
    let count : count_by (has path) (done ++ parts ∷ []) ≡ count_by (has path) done + (if has path parts then 1 else 0) =
    sum_by-append (λ p. cond (has path p) 1 0) done (parts ∷ []) ∙ ap (λ k. count_by (has path) done + k) (one (has path parts)) in
    let low : last ≤ length (done ++ parts ∷ []) = omega (arith, c.within, length-append done (parts ∷ [])) in
    (c.documents_are ∙ sym count, low)
  where
    one : (b : Bool) → 0 + cond b 1 0 ≡ (if b then 1 else 0)
    one true = refl
    one false = refl

pub counted_other : (done : List (List Part)) (parts : List Part) (path : List ℕ) (n last : ℕ) (x : Part) → is_at path x ≡ false → AreCounted done parts path n last → AreCounted done (parts ++ x ∷ []) path n last
counted_other done parts path n last x e c =
    let same : has path (parts ++ x ∷ []) ≡ has path parts = any_more (is_at path) parts x ∙ or_no (has path parts) (is_at path x) e in
    record {
      documents_are = c.documents_are ∙ ap (λ b. count_by (has path) done + (if b then 1 else 0)) (sym same);
      last_is = same ∙ c.last_is;
      within = c.within;
    }

pub counted_same : (done : List (List Part)) (parts : List Part) (path : List ℕ) (n last m : ℕ) (x : Part) → is_at path x ≡ true → AreCounted done parts path n last
    → m ≡ n + (if last == suc (length done) then 0 else 1) → AreCounted done (parts ++ x ∷ []) path m (suc (length done))
counted_same done parts path n last m x e c is =
    let there : has path (parts ++ x ∷ []) ≡ true = any_more (is_at path) parts x ∙ or_yes (has path parts) (is_at path x) e in
    record {
      documents_are = is ∙ by (has path parts) (last == suc (length done)) c.last_is c.documents_are ∙ ap (λ b. count_by (has path) done + (if b then 1 else 0)) (sym there);
      last_is = there ∙ own (length done);
      within = omega arith;
    }
  where
    by : (a b : Bool) → a ≡ b → n ≡ count_by (has path) done + (if a then 1 else 0) → n + (if b then 0 else 1) ≡ count_by (has path) done + 1
    by true true s k = omega (arith, k)
    by false false s k = omega (arith, k)
    by true false s k = absurd (cc)
    by false true s k = absurd (cc)

    own : (k : ℕ) → true ≡ (suc k == suc k)
    own k = sym ((Decides-eqb (suc k) (suc k)).1 refl)

-- the numbers of a new group, before its first part
pub counted_new : (done : List (List Part)) (parts : List Part) (path : List ℕ) → has path (all_parts done ++ parts) ≡ false → AreCounted done parts path 0 0
counted_new done parts path e =
    let both : (has path (all_parts done) ≡ false) × (has path parts ≡ false) =
    or_false (has path (all_parts done)) (has path parts) (sym (list_any-append (is_at path) (all_parts done) parts) ∙ e) in
    record {
      documents_are = sym (ap (λ b. count_by (has path) done + (if b then 1 else 0)) both.1 ∙ ap (λ k. k + 0) (has_none path done both.0));
      last_is = both.1 ∙ same_next 0 (length done) (omega arith);
      within = omega arith;
    }

-- ---- the paths of parts

pub paths_more : (parts : List Part) (x : Part) → paths_of (parts ++ x ∷ []) ≡ with_path (paths_of parts) x
paths_more parts x = fold-append with_path [] parts (x ∷ [])

-- a path is among those that are made of others
any_from : (q : List ℕ) (parts : List Part) (paths : List (List ℕ)) → list_any (bytes_eq q) (fold with_path paths parts) ≡ (list_any (bytes_eq q) paths || has q parts)
any_from q [] paths = sym (or_no (list_any (bytes_eq q) paths) false refl)
any_from q (x ∷ parts) paths = any_from q parts (with_path paths x) ∙ by (list_any (bytes_eq x.path) paths) refl
  where
    found : (ps : List (List ℕ)) → bytes_eq q x.path ≡ true → list_any (bytes_eq x.path) ps ≡ true → list_any (bytes_eq q) ps ≡ true
    found ps e f = subst (λ k. list_any (bytes_eq k) ps ≡ true) (sym ((bytes_eq-Decides q x.path).0 e)) f

    known : (a b c : Bool) → (b ≡ true → a ≡ true) → (a || c) ≡ (a || (b || c))
    known true b c h = refl
    known false true c h = absurd (let e : false ≡ true = h refl in cc)
    known false false c h = refl

    or_assoc : (a b c : Bool) → ((a || b) || c) ≡ (a || (b || c))
    or_assoc true b c = refl
    or_assoc false b c = refl

    by : (b : Bool) → list_any (bytes_eq x.path) paths ≡ b → list_any (bytes_eq q) (if b then paths else paths ++ x.path ∷ []) || has q parts ≡ (list_any (bytes_eq q) paths || (bytes_eq q x.path || has q parts))
    by true e = known (list_any (bytes_eq q) paths) (bytes_eq q x.path) (has q parts) (λ f. found paths f e)
    by false e = ap (λ b. b || has q parts) (any_more (bytes_eq q) paths x.path) ∙ or_assoc (list_any (bytes_eq q) paths) (bytes_eq q x.path) (has q parts)

pub paths_any : (q : List ℕ) (parts : List Part) → list_any (bytes_eq q) (paths_of parts) ≡ has q parts
paths_any q parts = any_from q parts []

or_right : (a b : Bool) → (a || b) ≡ true → a ≡ false → b ≡ true
or_right true b e f = absurd (cc)
or_right false b e f = e

-- where a path is among others
pub any_place : (path : List ℕ) (paths : List (List ℕ)) → list_any (bytes_eq path) paths ≡ true → (i : ℕ) × (i < length paths) × (get_or paths i [] ≡ path)
any_place path [] e = absurd (cc)
any_place path (p ∷ ps) e = by (bytes_eq path p) refl (λ h. any_place path ps h)
  where
    by : (b : Bool) → bytes_eq path p ≡ b → (list_any (bytes_eq path) ps ≡ true → (i : ℕ) × (i < length ps) × (get_or ps i [] ≡ path))
        → (i : ℕ) × (i < length (p ∷ ps)) × (get_or (p ∷ ps) i [] ≡ path)
    by true f more = (0, omega arith, sym ((bytes_eq-Decides path p).0 f))
    by false f more =
        let (i, low, is) = more (or_right (bytes_eq path p) (list_any (bytes_eq path) ps) e f) in
        (suc i, omega (arith, low), is)
