-- Laws: tables are the same key by key exactly where each row has a partner, and partners are the
-- same.
use Rattle.std.proofs.Common.{◌≡◌, ◌<◌, ◌↔◌, ℕ, zero, suc, Bool, true, false, cond, List, [], ◌∷◌}
use Rattle.std.proofs.Common.{Option, Some, None, length, map, take, arith, ap, sym, ◌∙◌, refl}
use Rattle.std.proofs.Common.{subst, ◌≢◌}
use Rattle.std.proofs.lemmas.List.{length-map}
use Rattle.std.proofs.lemmas.Option.{none-some, same_Some}
use Rattle.std.specs.List.{Contains, slice_get}
use Rattle.std.specs.Prelude.{option_map}
use Rattle.std.specs.Str.{bytes_eq}
use Rattle.diff_keys.specs.Matching.{IsAdded, IsRemoved}
use Rattle.diff_keys.specs.NthLaws.{found_by_number, found_partners, is_nth, partner_found}
use Rattle.diff_keys.specs.Partners.{Keys, ArePartners, key_at, count_of, number_of}
use Rattle.diff_keys.specs.Rising.{ListsRising}
use Rattle.diff_keys.specs.RisingLaws.{listed_as}
use Rattle.diff_keys.specs.Same.{AreSameByKey, rows_with}
use Rattle.diff_keys.specs.Waiting.{nth, this_or_later}

-- there is a row at a place within the table
pub row_within : {R : Type 0} (rows : List R) (i : ℕ) → i < length rows → slice_get rows i ≢ None
row_within [] i within e = absurd (omega arith)
row_within (x ∷ xs) zero within e = none-some x (sym e)
row_within (x ∷ xs) (suc i) within e = row_within xs i (omega arith) e

-- a list that contains no number is empty
pub nothing_listed : (xs : List ℕ) → ((x : ℕ) → ¬ (Contains xs x)) → xs ≡ []
nothing_listed [] h = refl
nothing_listed (x ∷ xs) h = absurd (h x (0, omega arith, refl))

-- the row at a place, if there is a place
abbrev pub row_of : {R : Type 0} → Option ℕ → List R → Option R
row_of None rows = None
row_of (Some j) rows = slice_get rows j

-- lists with the same elements are the same
pub same_gets : {R : Type 0} (xs ys : List R) → ((n : ℕ) → slice_get xs n ≡ slice_get ys n) → xs
    ≡ ys
same_gets [] [] h = refl
same_gets [] (y ∷ ys) h = absurd (none-some y (h 0))
same_gets (x ∷ xs) [] h = absurd (none-some x (sym (h 0)))
same_gets (x ∷ xs) (y ∷ ys) h =
    let head : x ≡ y = same_Some x y (h 0) in
    ap (λ z. z ∷ xs) head ∙ ap (λ zs. y ∷ zs) (same_gets xs ys (λ n. h (suc n)))

-- the row with a number among the rows with a key is the one that is found by both
pub row_with_number : {R : Type 0} (key : R → List ℕ) (k : List ℕ) (n : ℕ) (rows : List R)
    → slice_get (rows_with key k rows) n ≡ row_of (nth k n (map key rows)) rows
unfolding nth
row_with_number key k n [] = refl
row_with_number {R} key k n (x ∷ xs) = at (bytes_eq (key x) k) n (λ m. row_with_number key k m xs)
  where
    later : (o : Option ℕ) → row_of (option_map suc o) (x ∷ xs) ≡ row_of o xs
    later None = refl
    later (Some j) = refl

    at : (b : Bool) (m : ℕ)
        → ((i : ℕ) → slice_get (rows_with key k xs) i ≡ row_of (nth k i (map key xs)) xs)
        → slice_get (cond b (x ∷ rows_with key k xs) (rows_with key k xs)) m
        ≡ row_of (this_or_later b m (λ i. nth k i (map key xs))) (x ∷ xs)
    at true zero ih = refl
    at true (suc m) ih = ih m ∙ sym (later (nth k m (map key xs)))
    at false m ih = ih m ∙ sym (later (nth k m (map key xs)))

-- exchanged tables have the same partners
pub partners_back : (left right : Keys) (i j : ℕ) → ArePartners left right i j
    → ArePartners right left j i
partners_back left right i j h =
    record {
      left_row = h.right_row;
      right_row = h.left_row;
      one_key = sym h.one_key;
      one_number =
          sym h.one_number;
    }

-- the partner of a row with a key and a number has the same key and number
pub partner_nth : (left right : Keys) (k : List ℕ) (n i j : ℕ) → nth k n left ≡ Some i
    → ArePartners left right i j → nth k n right ≡ Some j
partner_nth left right k n i j e h =
    let at = is_nth k n left i e in
    let found : nth (key_at left i) (number_of left i) right
    ≡ Some j = partner_found left right i j h in
    let keyed : nth k (count_of k (take i left)) right
    ≡ Some j = subst (λ q. nth q (count_of q (take i left)) right ≡ Some j) at.key found in
    subst (λ m. nth k m right ≡ Some j) at.number keyed

-- each row has a partner on the other side, and partners are the same
pub record AllPaired {R : Type 0} (key : R → List ℕ) (left right : List R) : Type 0 where
  pub left_rows : (i : ℕ) → i < length left → (j : ℕ)
      × ArePartners (map key left) (map key right) i j
  pub right_rows : (j : ℕ) → j < length right → (i : ℕ)
      × ArePartners (map key left) (map key right) i j
  pub same : (i j : ℕ) → ArePartners (map key left) (map key right) i j → slice_get left i
      ≡ slice_get right j

pub same_from_paired : {R : Type 0} (key : R → List ℕ) (left right : List R)
    → AllPaired key left right → AreSameByKey key left right
same_from_paired key left right h = λ k. same_gets (rows_with key k left) (rows_with key k right)
    (λ n.
    row_with_number key k n left ∙
    (at k n (nth k n (map key left)) (nth k n (map key right)) refl refl ∙ sym
    (row_with_number key k n right)))
  where
    at : (k : List ℕ) (n : ℕ) (o p : Option ℕ) → nth k n (map key left) ≡ o
        → nth k n (map key right) ≡ p → row_of o left ≡ row_of p right
    at k n None None eo ep = refl
    at k n None (Some j) eo ep =
        let within = (is_nth k n (map key right) j ep).within in
        let (i, pair) = h.right_rows j (omega (arith, within, length-map right key)) in
        let found : nth k n (map key left)
        ≡ Some i =
        partner_nth (map key right) (map key left) k n j i ep (partners_back _ _ i j pair)
        in
        absurd (none-some i (sym eo ∙ found))
    at k n (Some i) p eo ep =
        let within = (is_nth k n (map key left) i eo).within in
        let (j, pair) = h.left_rows i (omega (arith, within, length-map left key)) in
        let found : nth k n (map key right)
        ≡ Some j = partner_nth (map key left) (map key right) k n i j eo pair in
        let is : Some j ≡ p = sym found ∙ ep in
        h.same i j pair ∙ ap (λ o. row_of o right) is

-- where rows are the same key by key, the row with a key and a number is the same
pub same_row : {R : Type 0} (key : R → List ℕ) (left right : List R) → AreSameByKey key left right
    → (k : List ℕ) (n : ℕ)
    → row_of (nth k n (map key left)) left ≡ row_of (nth k n (map key right)) right
same_row key left right h k n =
    sym (row_with_number key k n left) ∙
    (ap (λ rows. slice_get rows n) (h k) ∙ row_with_number key k n right)

-- where rows are the same key by key, each row has a partner on the other side
pub partner_of : {R : Type 0} (key : R → List ℕ) (left right : List R) → AreSameByKey key left right
    → (i : ℕ) → i < length left
    → (j : ℕ) × ArePartners (map key left) (map key right) i j
partner_of {R} key left right h i within = at (nth k n (map key right)) refl
  where
    k : List ℕ
    k = key_at (map key left) i

    n : ℕ
    n = number_of (map key left) i

    inside : i < length (map key left)
    inside = omega (arith, within, length-map left key)

    here : slice_get left i ≡ row_of (nth k n (map key right)) right
    here = ap (λ o. row_of o left) (sym (found_by_number (map key left) i inside)) ∙ same_row key
        left right h k n

    at : (o : Option ℕ) → nth k n (map key right) ≡ o → (j : ℕ)
        × ArePartners (map key left) (map key right) i j
    at None e =
        let none : slice_get left i ≡ None = here ∙ ap (λ o. row_of o right) e in
        absurd (row_within left i within none)
    at (Some j) e = (j, found_partners (map key left) (map key right) i (Some j) inside (sym e))

pub paired_from_same : {R : Type 0} (key : R → List ℕ) (left right : List R)
    → AreSameByKey key left right → AllPaired key left right
paired_from_same key left right h = record {
  left_rows = partner_of key left right h;
  right_rows = λ j within. let (i, pair) = partner_of key right left
      (λ k. sym (h k)) j within in (i, partners_back (map key right) (map key left) j i pair);
  same = λ i j pair.
      ap (λ o. row_of o left) (sym (found_by_number (map key left) i pair.left_row))
      ∙ (same_row key left right h (key_at (map key left) i) (number_of (map key left) i) ∙ ap
      (λ o. row_of o right) (partner_found (map key left) (map key right) i j pair));
}

-- no left row is removed exactly where each has a partner
pub none_removed : (left right : Keys) (removed : List ℕ)
    → ListsRising (IsRemoved left right) (length left) removed
    → (removed ≡ []) ↔ ((i : ℕ) → i < length left → (j : ℕ) × ArePartners left right i j)
none_removed left right removed h = (
  λ none i within. at none i within (nth (key_at left i) (number_of left i) right) refl,
  λ paired. nothing_listed removed
      (λ i there. let is : (i < length left)
      × IsRemoved left right i = (h.all i).0 there in let (j, pair) = paired i is.0 in is.1 j pair),
)
  where
    at : removed ≡ [] → (i : ℕ) → i < length left → (o : Option ℕ)
        → nth (key_at left i) (number_of left i) right ≡ o → (j : ℕ) × ArePartners left right i j
    at none i within None e =
        let (k, inside, _) = subst
        (λ l. Contains l i) none
        ((h.all i).1 (within, found_partners left right i None within (sym e))) in
        absurd (omega (arith, inside))
    at none i within (Some j) e = (j, found_partners left right i (Some j) within (sym e))

-- no right row is added exactly where each has a partner
pub none_added : (left right : Keys) (added : List ℕ)
    → ListsRising (IsAdded left right) (length right) added
    → (added ≡ []) ↔ ((j : ℕ) → j < length right → (i : ℕ) × ArePartners left right i j)
none_added left right added h = (
  λ none j within. let (i, pair) =
      removed.0 none j within in (i, partners_back right left j i pair),
  λ paired. removed.1
      (λ j within. let (i, pair) = paired j within in (i, partners_back left right i j pair)),
)
  where
    removed : (added ≡ []) ↔ ((j : ℕ) → j < length right → (i : ℕ) × ArePartners right left j i)
    removed = none_removed right left added
        (listed_as (IsAdded left right) (IsRemoved right left) (length right) added (λ j within. (
          λ is i pair. is i (partners_back right left j i pair),
          λ is i pair. is i (partners_back left right i j pair),
        )) h)
