-- Laws: rows that are the same key by key are the same up to order.
use Rattle.std.proofs.Common.{◌≡◌, ◌≤◌, ◌+◌, ℕ, zero, suc, Bool, true, false, cond, List, [], ◌∷◌}
use Rattle.std.proofs.Common.{◌++◌, Option, Some, None, length, map, take, arith, ap, sym, ◌∙◌}
use Rattle.std.proofs.Common.{refl, subst, inl, inr}
use Rattle.std.proofs.lemmas.Bool.{cases_eq, cases_lt}
use Rattle.std.proofs.lemmas.List.Elements.{All-contains_itself, All-filter, All-head}
use Rattle.std.proofs.lemmas.List.Elements.{Contains-append_right, filter-append, filter_passes}
use Rattle.std.proofs.lemmas.List.Sorted.{Contains-permutation, IsPermutation-cons}
use Rattle.std.proofs.lemmas.List.Sorted.{IsPermutation-middle, IsPermutation-refl}
use Rattle.std.proofs.lemmas.List.Sorted.{IsPermutation-sym, IsPermutation-trans}
use Rattle.std.proofs.lemmas.List.Sorted.{sum_by-IsPermutation}
use Rattle.std.proofs.lemmas.List.Sums.{sum_by-cons}
use Rattle.std.proofs.lemmas.Option.{none-some}
use Rattle.std.specs.List.{All, Contains, slice_get, sum_by}
use Rattle.std.specs.List.Sorted.{IsPermutation}
use Rattle.std.specs.Str.{bytes_eq}
use Rattle.diff_keys.specs.NthLaws.{bytes_eq-refl, is_nth, same_bytes}
use Rattle.diff_keys.specs.Partners.{count_of, key_at}
use Rattle.diff_keys.specs.Same.{AreSameByKey, rows_with}
use Rattle.diff_keys.specs.SameLaws.{row_of, row_with_number}
use Rattle.diff_keys.specs.Unique.{AllDiffer}
use Rattle.diff_keys.specs.Waiting.{nth}

-- rows are cut at the first one that has the key k
pub record IsCut {R : Type 0} (key : R → List ℕ) (k : List ℕ) (rows front : List R) (x : R)
    (back rest : List R) : Type 0 where
  pub whole : rows ≡ front ++ x ∷ back
  pub before : rows_with key k front ≡ []
  pub behind : rows_with key k back ≡ rest

pub cut_at : {R : Type 0} (key : R → List ℕ) (k : List ℕ) (rows : List R) (x : R) (rest : List R)
    → rows_with key k rows ≡ x ∷ rest
    → (front : List R) × (back : List R) × IsCut key k rows front x back rest
cut_at key k [] x rest e = absurd (cc)
cut_at {R} key k (y ∷ ys) x rest e = at (bytes_eq (key y) k) (cut_at key k ys x rest) refl e
  where
    at : (b : Bool)
        → (rows_with key k ys ≡ x ∷ rest → (front : List R) × (back : List R)
        × IsCut key k ys front x back rest)
        → bytes_eq (key y) k ≡ b → cond b (y ∷ rows_with key k ys) (rows_with key k ys) ≡ x ∷ rest
        → (front : List R) × (back : List R) × IsCut key k (y ∷ ys) front x back rest
    at true ih eb h =
        let head : y ≡ x = cc in
        let tail : rows_with key k ys ≡ rest = cc in
        ([], ys, record { whole = ap (λ z. z ∷ ys) head; before = refl; behind = tail })
    at false ih eb h =
        let (front, back, cut) = ih h in (
          y ∷ front,
          back,
          record {
            whole = ap (λ zs. y ∷ zs) cut.whole;
            before = rw eb cut.before;
            behind =
                cut.behind;
          },
        )

-- a row comes first among the rows with its key, if it comes first among all
pub with_own : {R : Type 0} (key : R → List ℕ) (x : R) (xs : List R)
    → rows_with key (key x) (x ∷ xs) ≡ x ∷ rows_with key (key x) xs
with_own key x xs = rw (bytes_eq-refl (key x)) refl

-- the same row taken out of both tables leaves them the same
pub same_rest : {R : Type 0} (key : R → List ℕ) (x : R) (xs right front back : List R)
    → AreSameByKey key (x ∷ xs) right
    → IsCut key (key x) right front x back (rows_with key (key x) xs)
    → AreSameByKey key xs (front ++ back)
same_rest key x xs right front back h cut k =
    at (bytes_eq (key x) k) refl
    (h k ∙ (ap (rows_with key k) cut.whole ∙ filter-append
    (λ r. bytes_eq (key r) k) front (x ∷ back)))
    ∙ sym (filter-append (λ r. bytes_eq (key r) k) front back)
  where
    at : (b : Bool) → bytes_eq (key x) k ≡ b → cond b (x ∷ rows_with key k xs) (rows_with key k xs)
        ≡ rows_with key k front ++ cond b (x ∷ rows_with key k back) (rows_with key k back)
        → rows_with key k xs ≡ rows_with key k front ++ rows_with key k back
    at false e same = same
    at true e same =
        let one : key x ≡ k = same_bytes (key x) k e in
        let before : rows_with key k front
        ≡ [] = subst (λ q. rows_with key q front ≡ []) one cut.before in
        let behind : rows_with key k back
        ≡ rows_with key k xs = subst
        (λ q. rows_with key q back ≡ rows_with key q xs) one cut.behind in
        rw (before, behind) refl

-- tables that are the same key by key have the same rows up to order
pub permuted_from_same : {R : Type 0} (key : R → List ℕ) (left right : List R)
    → AreSameByKey key left right → IsPermutation left right
permuted_from_same key [] [] h = IsPermutation-refl []
permuted_from_same key [] (y ∷ ys) h =
    absurd (let clash : [] ≡ y ∷ rows_with key (key y) ys = h (key y) ∙ with_own key y ys in cc)
permuted_from_same key (x ∷ xs) right h =
    let (front, back, cut) =
    cut_at key (key x) right x (rows_with key (key x) xs)
    (sym (h (key x)) ∙ with_own key x xs) in
    let rest : IsPermutation xs (front ++ back) =
    permuted_from_same key xs (front ++ back) (same_rest key x xs right front back h cut) in
    let moved : IsPermutation (x ∷ xs) (front ++ x ∷ back) =
    IsPermutation-trans _ _ _ (IsPermutation-cons x xs (front ++ back) rest)
    (IsPermutation-sym _ _ (IsPermutation-middle front x back)) in
    subst (IsPermutation (x ∷ xs)) (sym cut.whole) moved

-- if no key comes twice, at most one row has a key
pub one_with : {R : Type 0} (key : R → List ℕ) (k : List ℕ) (rows : List R)
    → AllDiffer (map key rows) → length (rows_with key k rows) ≤ 1
one_with {R} key k rows differ = at (rows_with key k rows) refl
  where
    place : (n : ℕ) (x : R) (o : Option ℕ) → nth k n (map key rows) ≡ o → row_of o rows ≡ Some x
        → (i : ℕ) × (nth k n (map key rows) ≡ Some i)
    place n x None e is = absurd (none-some x is)
    place n x (Some i) e is = (i, e)

    two : (i j : ℕ) → nth k 0 (map key rows) ≡ Some i → nth k 1 (map key rows) ≡ Some j → ⊥
    two i j ei ej =
        let first = is_nth k 0 (map key rows) i ei in
        let second = is_nth k 1 (map key rows) j ej in
        let one_key : key_at (map key rows) i
        ≡ key_at (map key rows) j = first.key ∙ sym second.key in
        elim (cases_lt i j) [
          | inl before ↦ differ i j before second.within one_key
          | inr after ↦ elim (cases_eq i j) [
            | inl here ↦
                let clash : 0 ≡ 1 =
                sym first.number ∙
                (ap (λ t. count_of k (take t (map key rows))) here ∙ second.number) in
                omega (arith, clash)
            | inr apart ↦ differ j i (omega (arith, after, apart)) first.within (sym one_key)
          ]
        ]

    at : (xs : List R) → rows_with key k rows ≡ xs → length (rows_with key k rows) ≤ 1
    at [] e = rw e (omega arith)
    at (x ∷ []) e = rw e (omega arith)
    at (x ∷ y ∷ zs) e =
        let zeroth : row_of (nth k 0 (map key rows)) rows
        ≡ Some x = sym (row_with_number key k 0 rows) ∙ ap (λ l. slice_get l 0) e in
        let next : row_of (nth k 1 (map key rows)) rows
        ≡ Some y = sym (row_with_number key k 1 rows) ∙ ap (λ l. slice_get l 1) e in
        let (i, ei) = place 0 x (nth k 0 (map key rows)) refl zeroth in
        let (j, ej) = place 1 y (nth k 1 (map key rows)) refl next in
        absurd (two i j ei ej)

-- the number of rows that have a key, as a sum
pub length_with : {R : Type 0} (key : R → List ℕ) (k : List ℕ) (rows : List R)
    → length (rows_with key k rows) ≡ sum_by (λ r. cond (bytes_eq (key r) k) 1 0) rows
length_with key k [] = refl
length_with {R} key k (x ∷ xs) =
    at (bytes_eq (key x) k) (length_with key k xs) ∙ sym
    (sum_by-cons (λ r. cond (bytes_eq (key r) k) 1 0) x xs)
  where
    at : (b : Bool) → length (rows_with key k xs) ≡ sum_by (λ r. cond (bytes_eq (key r) k) 1 0) xs
        → length (cond b (x ∷ rows_with key k xs) (rows_with key k xs))
        ≡ cond b 1 0 + sum_by (λ r. cond (bytes_eq (key r) k) 1 0) xs
    at true e = omega (arith, e)
    at false e = omega (arith, e)

-- a row with the key is among the rows with the key
pub among_with : {R : Type 0} (key : R → List ℕ) (k : List ℕ) (rows : List R) (x : R)
    → Contains rows x → bytes_eq (key x) k ≡ true → Contains (rows_with key k rows) x
among_with key k [] x there e = absurd (let (i, inside, _) = there in omega (arith, inside))
among_with {R} key k (y ∷ ys) x (zero, inside, is) e =
    let same : y ≡ x = is in
    let own : bytes_eq (key y) k ≡ true = ap (λ r. bytes_eq (key r) k) same ∙ e in
    rw own (0, omega arith, same)
among_with {R} key k (y ∷ ys) x (suc i, inside, is) e =
    at (bytes_eq (key y) k) (among_with key k ys x (i, omega (arith, inside), is) e)
  where
    at : (b : Bool) → Contains (rows_with key k ys) x
        → Contains (cond b (y ∷ rows_with key k ys) (rows_with key k ys)) x
    at true there = Contains-append_right (y ∷ []) (rows_with key k ys) x there
    at false there = there

-- an element of a list of one is that one
pub alone : {R : Type 0} (x y : R) → Contains (y ∷ []) x → y ≡ x
alone x y (zero, inside, is) = is
alone x y (suc i, inside, is) = absurd (omega (arith, inside))

-- if no key comes twice, rows that are the same up to order are the same key by key
pub same_from_permuted : {R : Type 0} (key : R → List ℕ) (left right : List R)
    → AllDiffer (map key left) → IsPermutation left right → AreSameByKey key left right
same_from_permuted {R} key left right differ moved k =
    at (rows_with key k left) (rows_with key k right) refl refl
  where
    one : length (rows_with key k left) ≤ 1
    one = one_with key k left differ

    as_many : length (rows_with key k right) ≡ length (rows_with key k left)
    as_many = length_with key k right ∙
        (sum_by-IsPermutation
        (λ r. cond (bytes_eq (key r) k) 1 0) left right moved ∙ sym (length_with key k left))

    met : (x y : R) → rows_with key k left ≡ x ∷ [] → rows_with key k right ≡ y ∷ [] → y ≡ x
    met x y el er =
        let there : Contains left x =
        All-head (Contains left) x []
        (subst (All (Contains left)) el
        (All-filter
        (λ r. bytes_eq (key r) k) (Contains left) left (All-contains_itself left))) in
        let keyed : bytes_eq (key x) k ≡ true =
        All-head (λ r. bytes_eq (key r) k ≡ true) x []
        (subst (All (λ r. bytes_eq (key r) k ≡ true)) el
        (filter_passes (λ r. bytes_eq (key r) k) left)) in
        alone x y (subst
        (λ l. Contains l x) er
        (among_with key k right x (Contains-permutation left right x moved there) keyed))

    at : (ls rs : List R) → rows_with key k left ≡ ls → rows_with key k right ≡ rs
        → rows_with key k left ≡ rows_with key k right
    at [] [] el er = el ∙ sym er
    at [] (y ∷ ys) el er = absurd (omega (arith, as_many, ap length el, ap length er))
    at (x ∷ []) [] el er = absurd (omega (arith, as_many, ap length el, ap length er))
    at (x ∷ []) (y ∷ []) el er = el ∙ (ap (λ z. z ∷ []) (sym (met x y el er)) ∙ sym er)
    at (x ∷ []) (y ∷ z ∷ zs) el er = absurd (omega (arith, as_many, ap length el, ap length er))
    at (x ∷ w ∷ ws) rs el er = absurd (omega (arith, one, ap length el))
