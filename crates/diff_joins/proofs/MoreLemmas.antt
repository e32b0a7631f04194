-- One row more of two tables that are matched.
use Rattle.std.proofs.Common.{◌≡◌, ◌∙◌, ◌+◌, ◌<◌, ◌≤◌, ◌↔◌, ◌⊎◌, ℕ, zero, suc, Bool, true, false, List, [], ◌∷◌, ◌++◌, length, take, arith, ap, sym, refl, subst, inl, inr}
use Rattle.std.proofs.lemmas.Bool.{cases_lt}
use Rattle.std.proofs.lemmas.List.{get_or_append_left, get_or_push, length_push, take-append-le}
use Rattle.std.proofs.Math.Seq.{take-append_seam}
use Rattle.std.specs.Prelude.{slice_index}
use Rattle.std.specs.Str.{bytes_eq}
use Rattle.diff_joins.specs.More.{MatchesAdded, MatchesPair, MatchesRemoved}
use Rattle.diff_joins.proofs.JoinLemmas.{ListsPartners, partners_of}
use Rattle.diff_joins.proofs.PlaceLemmas.{key_left, number_left}
use Rattle.diff_keys.specs.Matching.{IsAdded, IsMatching, IsRemoved}
use Rattle.diff_keys.specs.NthLaws.{bytes_eq-refl}
use Rattle.diff_keys.specs.Partners.{Keys, ArePartners, count_of, key_at, number_of, one_more}
use Rattle.diff_keys.specs.Rising.{ListsRising}
use Rattle.diff_keys.specs.RisingLaws.{listed_as, one_listed, one_passed, rising_push}
use Rattle.diff_keys.specs.SameLaws.{partners_back}

-- a row comes before the last place, or is there
place_cases : (n i : ℕ) → i < n + 1 → (i < n) ⊎ (i ≡ n)
place_cases n i within = elim (cases_lt i n) [
  | inl before ↦ inl before
  | inr behind ↦ inr (omega (arith, within, behind))
]

last_key : (xs : Keys) (key : List ℕ) → key_at (xs ++ key ∷ []) (length xs) ≡ key
last_key xs key = get_or_push xs key [] (length xs) refl

last_number : (xs : Keys) (key : List ℕ) → number_of (xs ++ key ∷ []) (length xs) ≡ count_of key xs
last_number xs key = ap (λ q. count_of q (take (length xs) (xs ++ key ∷ []))) (last_key xs key) ∙ ap (count_of key) (take-append_seam xs (key ∷ []))

-- fewer rows of a key come before a row of it than there are
pub fewer_before : (xs : Keys) (i : ℕ) → i < length xs → number_of xs i < count_of (key_at xs i) xs
unfolding count_of
fewer_before [] i within = absurd (omega (arith, within))
fewer_before (x ∷ xs) zero within = rw (bytes_eq-refl x) (omega arith)
fewer_before (x ∷ xs) (suc i) within = at (bytes_eq x (key_at xs i)) (fewer_before xs i (omega (arith, within)))
  where
    at : (b : Bool) → count_of (key_at xs i) (take i xs) < count_of (key_at xs i) xs → one_more b (count_of (key_at xs i) (take i xs)) < one_more b (count_of (key_at xs i) xs)
    at true ih = omega (arith, ih)
    at false ih = ih

module _ (left right : Keys) (key : List ℕ) where
  -- rows before the last ones
  before_both : (i j : ℕ) → i < length left → j < length right → ArePartners (left ++ key ∷ []) (right ++ key ∷ []) i j → ArePartners left right i j
  before_both i j l r h = record {
    left_row = l;
    right_row = r;
    one_key = sym (key_left left (key ∷ []) i l) ∙ (h.one_key ∙ key_left right (key ∷ []) j r);
    one_number = sym (number_left left (key ∷ []) i l) ∙ (h.one_number ∙ number_left right (key ∷ []) j r);
  }

  both_before : (i j : ℕ) → ArePartners left right i j → ArePartners (left ++ key ∷ []) (right ++ key ∷ []) i j
  both_before i j h = record {
    left_row = omega (arith, h.left_row, length_push left key);
    right_row = omega (arith, h.right_row, length_push right key);
    one_key = key_left left (key ∷ []) i h.left_row ∙ (h.one_key ∙ sym (key_left right (key ∷ []) j h.right_row));
    one_number = number_left left (key ∷ []) i h.left_row ∙ (h.one_number ∙ sym (number_left right (key ∷ []) j h.right_row));
  }

  before_left : (i j : ℕ) → i < length left → ArePartners (left ++ key ∷ []) right i j → ArePartners left right i j
  before_left i j l h = record {
    left_row = l;
    right_row = h.right_row;
    one_key = sym (key_left left (key ∷ []) i l) ∙ h.one_key;
    one_number = sym (number_left left (key ∷ []) i l) ∙ h.one_number;
  }

  left_before : (i j : ℕ) → ArePartners left right i j → ArePartners (left ++ key ∷ []) right i j
  left_before i j h = record {
    left_row = omega (arith, h.left_row, length_push left key);
    right_row = h.right_row;
    one_key = key_left left (key ∷ []) i h.left_row ∙ h.one_key;
    one_number = number_left left (key ∷ []) i h.left_row ∙ h.one_number;
  }

  -- the last left row is not the partner of a row of the right table, where this has no more rows of its key
  no_partner : (j : ℕ) → count_of key right ≤ count_of key left → j < length right → key ≡ key_at right j → count_of key left ≡ number_of right j → ⊥
  no_partner j few within is number =
      let less : number_of right j < count_of key right = subst (λ q. number_of right j < count_of q right) (sym is) (fewer_before right j within) in
      omega (arith, few, number, less)

-- the partners of two tables with one more left row, which has none
pub no_pair_more : (left right : Keys) (key : List ℕ) → count_of key right ≤ count_of key left → (i j : ℕ) → ArePartners (left ++ key ∷ []) right i j → ArePartners left right i j
no_pair_more left right key few i j h = elim (place_cases (length left) i (omega (arith, h.left_row, length_push left key))) [
  | inl before ↦ before_left left right key i j before h
  | inr last ↦
      let is : key ≡ key_at right j = sym (last_key left key) ∙ (ap (key_at (left ++ key ∷ [])) (sym last) ∙ h.one_key) in
      let number : count_of key left ≡ number_of right j = sym (last_number left key) ∙ (ap (number_of (left ++ key ∷ [])) (sym last) ∙ h.one_number) in
      absurd (no_partner left right key j few h.right_row is number)
]

-- the last rows of two tables
pub last_pair : (left right : Keys) (key : List ℕ) → count_of key left ≡ count_of key right → ArePartners (left ++ key ∷ []) (right ++ key ∷ []) (length left) (length right)
last_pair left right key same = record {
  left_row = omega (arith, length_push left key);
  right_row = omega (arith, length_push right key);
  one_key = last_key left key ∙ sym (last_key right key);
  one_number = last_number left key ∙ (same ∙ sym (last_number right key));
}

-- the partners of two tables with one more row of a key after each
pub one_pair_more : (left right : Keys) (key : List ℕ) → count_of key left ≡ count_of key right → (i j : ℕ) → ArePartners (left ++ key ∷ []) (right ++ key ∷ []) i j
    → ArePartners left right i j ⊎ ((i ≡ length left) × (j ≡ length right))
one_pair_more left right key same i j h = elim (place_cases (length left) i (omega (arith, h.left_row, length_push left key))) [
  | inl li ↦ elim (place_cases (length right) j (omega (arith, h.right_row, length_push right key))) [
    | inl rj ↦ inl (before_both left right key i j li rj h)
    | inr last ↦
        let is : key ≡ key_at left i = sym (last_key right key) ∙ (ap (key_at (right ++ key ∷ [])) (sym last) ∙ (sym h.one_key ∙ key_left left (key ∷ []) i li)) in
        let number : count_of key right ≡ number_of left i =
        sym (last_number right key) ∙ (ap (number_of (right ++ key ∷ [])) (sym last) ∙ (sym h.one_number ∙ number_left left (key ∷ []) i li)) in
        absurd (no_partner right left key i (omega (arith, same)) li is number)
  ]
  | inr here ↦ elim (place_cases (length right) j (omega (arith, h.right_row, length_push right key))) [
    | inl rj ↦
        let is : key ≡ key_at right j = sym (last_key left key) ∙ (ap (key_at (left ++ key ∷ [])) (sym here) ∙ (h.one_key ∙ key_left right (key ∷ []) j rj)) in
        let number : count_of key left ≡ number_of right j =
        sym (last_number left key) ∙ (ap (number_of (left ++ key ∷ [])) (sym here) ∙ (h.one_number ∙ number_left right (key ∷ []) j rj)) in
        absurd (no_partner left right key j (omega (arith, same)) rj is number)
    | inr last ↦ inr (here, last)
  ]
]

-- the lists with one pair more
pub pairs_more : (left right : Keys) (key : List ℕ) (ls rs : List ℕ) → count_of key left ≡ count_of key right → ListsPartners left right ls rs
    → ListsPartners (left ++ key ∷ []) (right ++ key ∷ []) (ls ++ length left ∷ []) (rs ++ length right ∷ [])
pairs_more left right key ls rs same h = record {
  one_length = length_push ls (length left) ∙ (ap (λ n. n + 1) h.one_length ∙ sym (length_push rs (length right)));
  partners = λ k within. at k (place_cases (length ls) k (omega (arith, within, length_push ls (length left))));
  all_partners = λ i j pair. elim (one_pair_more left right key same i j pair) [
    | inl before ↦
        let (k, within, l, r) = h.all_partners i j before in
        (k, omega (arith, within, length_push ls (length left)), left_is k within ∙ l, right_is k (omega (arith, within, h.one_length)) ∙ r)
    | inr last ↦ (length ls, omega (arith, length_push ls (length left)), get_or_push ls (length left) 0 (length ls) refl ∙ sym last.0, get_or_push rs (length right) 0 (length ls) (sym h.one_length) ∙ sym last.1)
  ];
  in_order = rising_push ls (length left) (λ k within. (h.partners k within).left_row) h.in_order;
}
  where
    left_is : (k : ℕ) → k < length ls → slice_index (ls ++ length left ∷ []) k ≡ slice_index ls k
    left_is k within = get_or_append_left ls (length left ∷ []) 0 k within

    right_is : (k : ℕ) → k < length rs → slice_index (rs ++ length right ∷ []) k ≡ slice_index rs k
    right_is k within = get_or_append_left rs (length right ∷ []) 0 k within

    at : (k : ℕ) → (k < length ls) ⊎ (k ≡ length ls) → ArePartners (left ++ key ∷ []) (right ++ key ∷ []) (slice_index (ls ++ length left ∷ []) k) (slice_index (rs ++ length right ∷ []) k)
    at k (inl before) = rw (left_is k before, right_is k (omega (arith, before, h.one_length))) (both_before left right key (slice_index ls k) (slice_index rs k) (h.partners k before))
    at k (inr last) =
        let l : slice_index (ls ++ length left ∷ []) k ≡ length left = get_or_push ls (length left) 0 k (sym last) in
        let r : slice_index (rs ++ length right ∷ []) k ≡ length right = get_or_push rs (length right) 0 k (sym (last ∙ h.one_length)) in
        rw (l, r) (last_pair left right key same)

-- the lists of pairs with one more left row, which has no partner
pub pairs_same : (left right : Keys) (key : List ℕ) (ls rs : List ℕ) → count_of key right ≤ count_of key left → ListsPartners left right ls rs → ListsPartners (left ++ key ∷ []) right ls rs
pairs_same left right key ls rs few h = record {
  one_length = h.one_length;
  partners = λ k within. left_before left right key _ _ (h.partners k within);
  all_partners = λ i j pair. h.all_partners i j (no_pair_more left right key few i j pair);
  in_order = h.in_order;
}

-- the removed rows with one pair more
pub removed_pair : (left right : Keys) (key : List ℕ) (xs : List ℕ) → count_of key left ≡ count_of key right → ListsRising (IsRemoved left right) (length left) xs
    → ListsRising (IsRemoved (left ++ key ∷ []) (right ++ key ∷ [])) (length (left ++ key ∷ [])) xs
removed_pair left right key xs same h =
    one_passed (IsRemoved (left ++ key ∷ []) (right ++ key ∷ [])) (length left) (length (left ++ key ∷ [])) xs
    (listed_as (IsRemoved left right) (IsRemoved (left ++ key ∷ []) (right ++ key ∷ [])) (length left) xs (λ i within. (
      λ none j pair. elim (one_pair_more left right key same i j pair) [
        | inl before ↦ none j before
        | inr last ↦ let is = last.0 in omega (arith, is, within)
      ],
      λ none j pair. none j (both_before left right key i j pair),
    )) h)
    (λ none. none (length right) (last_pair left right key same))
    (omega (arith, length_push left key))

-- the removed rows with one more, which is removed
pub removed_more : (left right : Keys) (key : List ℕ) (xs : List ℕ) → count_of key right ≤ count_of key left → ListsRising (IsRemoved left right) (length left) xs
    → ListsRising (IsRemoved (left ++ key ∷ []) right) (length (left ++ key ∷ [])) (xs ++ length left ∷ [])
removed_more left right key xs few h =
    one_listed (IsRemoved (left ++ key ∷ []) right) (length left) (length (left ++ key ∷ [])) xs
    (listed_as (IsRemoved left right) (IsRemoved (left ++ key ∷ []) right) (length left) xs (λ i within. (
      λ none j pair. none j (no_pair_more left right key few i j pair),
      λ none j pair. none j (left_before left right key i j pair),
    )) h)
    (λ j pair. let low = (no_pair_more left right key few (length left) j pair).left_row in omega (arith, low))
    (omega (arith, length_push left key))

-- the right rows without a partner, where a left row more has none
pub added_same : (left right : Keys) (key : List ℕ) (xs : List ℕ) → count_of key right ≤ count_of key left → ListsRising (IsAdded left right) (length right) xs
    → ListsRising (IsAdded (left ++ key ∷ []) right) (length right) xs
added_same left right key xs few h = listed_as (IsAdded left right) (IsAdded (left ++ key ∷ []) right) (length right) xs (λ j within. (
  λ none i pair. none i (no_pair_more left right key few i j pair),
  λ none i pair. none i (left_before left right key i j pair),
)) h

-- rows that are added are removed from the right table
pub turned : (left right : Keys) (n : ℕ) (xs : List ℕ) → ListsRising (IsAdded left right) n xs ↔ ListsRising (IsRemoved right left) n xs
turned left right n xs = (
  listed_as (IsAdded left right) (IsRemoved right left) n xs (λ i within. (λ none j pair. none j (partners_back right left i j pair), λ none j pair. none j (partners_back left right j i pair))),
  listed_as (IsRemoved right left) (IsAdded left right) n xs (λ i within. (λ none j pair. none j (partners_back left right j i pair), λ none j pair. none j (partners_back right left i j pair))),
)

pub matches_pair : MatchesPair
matches_pair left right key before after same h m =
    let pairs = pairs_more left right key before.left_rows.items before.right_rows.items same (partners_of left right before h) in
    record {
      one_length = rw (m.left_rows, m.right_rows) pairs.one_length;
      partners = rw (m.left_rows, m.right_rows) pairs.partners;
      all_partners = rw (m.left_rows, m.right_rows) pairs.all_partners;
      in_order = rw m.left_rows pairs.in_order;
      removed = rw m.removed (removed_pair left right key before.removed.items same h.removed);
      added = rw m.added ((turned (left ++ key ∷ []) (right ++ key ∷ []) _ _).1 (removed_pair right left key before.added.items (sym same) ((turned left right _ _).0 h.added)));
    }

pub matches_removed : MatchesRemoved
matches_removed left right key before after few h m =
    let pairs = pairs_same left right key before.left_rows.items before.right_rows.items few (partners_of left right before h) in
    record {
      one_length = rw (m.left_rows, m.right_rows) pairs.one_length;
      partners = rw (m.left_rows, m.right_rows) pairs.partners;
      all_partners = rw (m.left_rows, m.right_rows) pairs.all_partners;
      in_order = rw m.left_rows pairs.in_order;
      removed = rw m.removed (removed_more left right key before.removed.items few h.removed);
      added = rw m.added (added_same left right key before.added.items few h.added);
    }

-- the same of right rows
pairs_turned : (left right : Keys) (key : List ℕ) (ls rs : List ℕ) → count_of key left ≤ count_of key right → ListsPartners left right ls rs → ListsPartners left (right ++ key ∷ []) ls rs
pairs_turned left right key ls rs few h = record {
  one_length = h.one_length;
  partners = λ k within. partners_back _ _ _ _ (left_before right left key _ _ (partners_back _ _ _ _ (h.partners k within)));
  all_partners = λ i j pair. h.all_partners i j (partners_back _ _ _ _ (no_pair_more right left key few j i (partners_back _ _ _ _ pair)));
  in_order = h.in_order;
}

pub matches_added : MatchesAdded
matches_added left right key before after few h m =
    let pairs = pairs_turned left right key before.left_rows.items before.right_rows.items few (partners_of left right before h) in
    record {
      one_length = rw (m.left_rows, m.right_rows) pairs.one_length;
      partners = rw (m.left_rows, m.right_rows) pairs.partners;
      all_partners = rw (m.left_rows, m.right_rows) pairs.all_partners;
      in_order = rw m.left_rows pairs.in_order;
      removed = rw m.removed ((turned (right ++ key ∷ []) left _ _).0 (added_same right left key before.removed.items few ((turned right left _ _).1 h.removed)));
      added = rw m.added ((turned left (right ++ key ∷ []) _ _).1 (removed_more right left key before.added.items few ((turned left right _ _).0 h.added)));
    }
