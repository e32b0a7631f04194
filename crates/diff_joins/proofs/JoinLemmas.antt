-- The comparison of tables that share no key with others after them.
use Rattle.std.proofs.Common.{◌≡◌, ◌∙◌, ◌+◌, ◌<◌, ◌↔◌, ◌⊎◌, ℕ, suc, List, [], ◌∷◌, ◌++◌, length, arith, ap, sym, refl, subst, inl, inr, length-append}
use Rattle.std.proofs.lemmas.Option.{same_Some}
use Rattle.std.specs.List.{Contains}
use Rattle.std.specs.Prelude.{slice_index}
use Rattle.diff_joins.specs.Laws.{JoinsMatchings, ShareNoKey, with_later}
use Rattle.diff_joins.proofs.ListingLemmas.{at_first, at_later, count_joined, joined_rise, listed_at, one_listing, one_rising, place_of, rising_joined}
use Rattle.diff_joins.proofs.PlaceLemmas.{apart_cases, first_both, later_both, part_of}
use Rattle.diff_keys.specs.Matching.{IsAdded, IsMatching, IsRemoved}
use Rattle.diff_keys.specs.NthLaws.{partner_found}
use Rattle.diff_keys.specs.Partners.{Keys, ArePartners}
use Rattle.diff_keys.specs.Rising.{ListsRising}
use Rattle.diff_keys.specs.declared.matching.Matching.{Matching}

-- the pairs of partners are listed, the left rows in rising order
pub record ListsPartners (left right : Keys) (left_rows right_rows : List ℕ) : Type 0 where
  pub one_length : length left_rows ≡ length right_rows
  pub partners : (k : ℕ) → k < length left_rows → ArePartners left right (slice_index left_rows k) (slice_index right_rows k)
  pub all_partners : (i j : ℕ) → ArePartners left right i j → (k : ℕ) × (k < length left_rows) × (slice_index left_rows k ≡ i) × (slice_index right_rows k ≡ j)
  pub in_order : (k : ℕ) → suc k < length left_rows → slice_index left_rows k < slice_index left_rows (suc k)

pub partners_of : (left right : Keys) (m : Matching) → IsMatching left right m → ListsPartners left right m.left_rows.items m.right_rows.items
partners_of left right m h = record { one_length = h.one_length; partners = h.partners; all_partners = h.all_partners; in_order = h.in_order }

-- lists of one length with the same items are the same
same_items : (xs ys : List ℕ) → length xs ≡ length ys → ((k : ℕ) → k < length xs → slice_index xs k ≡ slice_index ys k) → xs ≡ ys
same_items [] [] e same = refl
same_items [] (y ∷ ys) e same = absurd (omega (arith, e))
same_items (x ∷ xs) [] e same = absurd (omega (arith, e))
same_items (x ∷ xs) (y ∷ ys) e same =
    let head : x ≡ y = same 0 (omega arith) in
    ap (λ h. h ∷ xs) head ∙ ap (λ l. y ∷ l) (same_items xs ys (omega (arith, e)) (λ k within. same (suc k) (omega (arith, within))))

-- pairs of partners are listed in one way
listed_too : (left right : Keys) (ls rs us vs : List ℕ) → ListsPartners left right ls rs → ListsPartners left right us vs → (x : ℕ) → Contains ls x → Contains us x
listed_too left right ls rs us vs h g x there =
    let (k, within, is) = place_of ls x there in
    let (p, inside, l, r) = g.all_partners (slice_index ls k) (slice_index rs k) (h.partners k within) in
    listed_at us x p inside (l ∙ is)

pub one_way : (left right : Keys) (ls rs us vs : List ℕ) → ListsPartners left right ls rs → ListsPartners left right us vs → (ls ≡ us) × (rs ≡ vs)
one_way left right ls rs us vs h g = (lefts, same_items rs vs long rights)
  where
    lefts : ls ≡ us
    lefts = one_listing ls us h.in_order g.in_order (λ x. (listed_too left right ls rs us vs h g x, listed_too left right us vs ls rs g h x))

    long : length rs ≡ length vs
    long = sym h.one_length ∙ (ap length lefts ∙ g.one_length)

    rights : (k : ℕ) → k < length rs → slice_index rs k ≡ slice_index vs k
    rights k within =
        let one = h.partners k (omega (arith, within, h.one_length)) in
        let other = g.partners k (omega (arith, within, long, g.one_length)) in
        let moved : ArePartners left right (slice_index ls k) (slice_index vs k) = subst (λ l. ArePartners left right (slice_index l k) (slice_index vs k)) (sym lefts) other in
        same_Some _ _ (sym (partner_found left right (slice_index ls k) (slice_index rs k) one) ∙ partner_found left right (slice_index ls k) (slice_index vs k) moved)

module _ (left right later_left later_right : Keys) (apart : ShareNoKey left right later_left later_right) where
  -- the pairs of partners of the whole
  pub pairs_joined : (ls rs us vs : List ℕ) → ListsPartners left right ls rs → ListsPartners later_left later_right us vs
      → ListsPartners (left ++ later_left) (right ++ later_right) (with_later (length left) ls us) (with_later (length right) rs vs)
  pairs_joined ls rs us vs h g = record {
    one_length = omega (arith, h.one_length, g.one_length, count_joined (length left) ls us, count_joined (length right) rs vs);
    partners = λ k within. at k (part_of (length ls) k (length us) (omega (arith, within, count_joined (length left) ls us)));
    all_partners = λ i j pair. elim (apart_cases left right later_left later_right apart i j pair) [
      | inl first ↦
          let (k, within, l, r) = h.all_partners i j first in
          (k, omega (arith, within, count_joined (length left) ls us), at_first (length left) ls us k within ∙ l, at_first (length right) rs vs k (omega (arith, within, h.one_length)) ∙ r)
      | inr p ↦
          let (k, within, l, r) = g.all_partners p.left_row p.right_row p.partners in
          let left_is : slice_index (with_later (length left) ls us) (length ls + k) ≡ i = at_later (length left) ls us k within ∙ (ap (λ n. length left + n) l ∙ sym p.left_is) in
          let right_is : slice_index (with_later (length right) rs vs) (length ls + k) ≡ j =
          ap (λ n. slice_index (with_later (length right) rs vs) (n + k)) h.one_length ∙ (at_later (length right) rs vs k (omega (arith, within, g.one_length)) ∙ (ap (λ n. length right + n) r ∙ sym p.right_is)) in
          (length ls + k, omega (arith, within, count_joined (length left) ls us), left_is, right_is)
    ];
    in_order = joined_rise (length left) ls us (λ k within. (h.partners k within).left_row) h.in_order g.in_order;
  }
    where
      at : (k : ℕ) → (k < length ls) ⊎ ((p : ℕ) × (p < length us) × (k ≡ length ls + p))
          → ArePartners (left ++ later_left) (right ++ later_right) (slice_index (with_later (length left) ls us) k) (slice_index (with_later (length right) rs vs) k)
      at k (inl within) =
          let l : slice_index (with_later (length left) ls us) k ≡ slice_index ls k = at_first (length left) ls us k within in
          let r : slice_index (with_later (length right) rs vs) k ≡ slice_index rs k = at_first (length right) rs vs k (omega (arith, within, h.one_length)) in
          rw (l, r) (first_both left right later_left later_right apart (slice_index ls k) (slice_index rs k) (h.partners k within))
      at k (inr (p, within, is)) =
          let l : slice_index (with_later (length left) ls us) k ≡ length left + slice_index us p = ap (slice_index (with_later (length left) ls us)) is ∙ at_later (length left) ls us p within in
          let stood : k ≡ length rs + p = omega (arith, is, h.one_length) in
          let r : slice_index (with_later (length right) rs vs) k ≡ length right + slice_index vs p =
          ap (slice_index (with_later (length right) rs vs)) stood ∙ at_later (length right) rs vs p (omega (arith, within, g.one_length)) in
          rw (l, r) (later_both left right later_left later_right apart (slice_index us p) (slice_index vs p) (g.partners p within))

  -- the rows without a partner
  removed_first : (i : ℕ) → i < length left → IsRemoved (left ++ later_left) (right ++ later_right) i ↔ IsRemoved left right i
  removed_first i within = (
    λ none j pair. none j (first_both left right later_left later_right apart i j pair),
    λ none j pair. elim (apart_cases left right later_left later_right apart i j pair) [
      | inl first ↦ none j first
      | inr p ↦ let is = p.left_is in omega (arith, within, is)
    ],
  )

  removed_later : (i : ℕ) → i < length later_left → IsRemoved (left ++ later_left) (right ++ later_right) (length left + i) ↔ IsRemoved later_left later_right i
  removed_later i within = (
    λ none j pair. none (length right + j) (later_both left right later_left later_right apart i j pair),
    λ none j pair. elim (apart_cases left right later_left later_right apart (length left + i) j pair) [
      | inl first ↦ let low = first.left_row in omega (arith, low)
      | inr p ↦
          let is = p.left_is in
          let row : p.left_row ≡ i = omega (arith, is) in
          none p.right_row (subst (λ n. ArePartners later_left later_right n p.right_row) row p.partners)
    ],
  )

  added_first : (j : ℕ) → j < length right → IsAdded (left ++ later_left) (right ++ later_right) j ↔ IsAdded left right j
  added_first j within = (
    λ none i pair. none i (first_both left right later_left later_right apart i j pair),
    λ none i pair. elim (apart_cases left right later_left later_right apart i j pair) [
      | inl first ↦ none i first
      | inr p ↦ let is = p.right_is in omega (arith, within, is)
    ],
  )

  added_later : (j : ℕ) → j < length later_right → IsAdded (left ++ later_left) (right ++ later_right) (length right + j) ↔ IsAdded later_left later_right j
  added_later j within = (
    λ none i pair. none (length left + i) (later_both left right later_left later_right apart i j pair),
    λ none i pair. elim (apart_cases left right later_left later_right apart i (length right + j) pair) [
      | inl first ↦ let low = first.right_row in omega (arith, low)
      | inr p ↦
          let is = p.right_is in
          let row : p.right_row ≡ j = omega (arith, is) in
          none p.left_row (subst (λ n. ArePartners later_left later_right p.left_row n) row p.partners)
    ],
  )

  pub removed_joined : (xs ys : List ℕ) → ListsRising (IsRemoved left right) (length left) xs → ListsRising (IsRemoved later_left later_right) (length later_left) ys
      → ListsRising (IsRemoved (left ++ later_left) (right ++ later_right)) (length (left ++ later_left)) (with_later (length left) xs ys)
  removed_joined xs ys h g = rising_joined (IsRemoved left right) (IsRemoved later_left later_right) (IsRemoved (left ++ later_left) (right ++ later_right))
      (length left) (length later_left) (length (left ++ later_left)) xs ys h g (length-append left later_left) removed_first removed_later

  pub added_joined : (xs ys : List ℕ) → ListsRising (IsAdded left right) (length right) xs → ListsRising (IsAdded later_left later_right) (length later_right) ys
      → ListsRising (IsAdded (left ++ later_left) (right ++ later_right)) (length (right ++ later_right)) (with_later (length right) xs ys)
  added_joined xs ys h g = rising_joined (IsAdded left right) (IsAdded later_left later_right) (IsAdded (left ++ later_left) (right ++ later_right))
      (length right) (length later_right) (length (right ++ later_right)) xs ys h g (length-append right later_right) added_first added_later

pub joins_matchings : JoinsMatchings
joins_matchings left right later_left later_right first second whole apart h g = (
  λ w.
      let one = one_way (left ++ later_left) (right ++ later_right) whole.left_rows.items whole.right_rows.items _ _ (partners_of _ _ whole w) pairs in
      record {
        left_rows = one.0;
        right_rows = one.1;
        removed = one_rising (IsRemoved (left ++ later_left) (right ++ later_right)) _ _ _ _ w.removed removed refl;
        added = one_rising (IsAdded (left ++ later_left) (right ++ later_right)) _ _ _ _ w.added added refl;
      },
  λ j. record {
    one_length = rw (j.left_rows, j.right_rows) pairs.one_length;
    partners = rw (j.left_rows, j.right_rows) pairs.partners;
    all_partners = rw (j.left_rows, j.right_rows) pairs.all_partners;
    in_order = rw j.left_rows pairs.in_order;
    removed = rw j.removed removed;
    added = rw j.added added;
  },
)
  where
    pairs : ListsPartners (left ++ later_left) (right ++ later_right) (with_later (length left) first.left_rows.items second.left_rows.items) (with_later (length right) first.right_rows.items second.right_rows.items)
    pairs = pairs_joined left right later_left later_right apart first.left_rows.items first.right_rows.items second.left_rows.items second.right_rows.items
        (partners_of left right first h) (partners_of later_left later_right second g)

    removed : ListsRising (IsRemoved (left ++ later_left) (right ++ later_right)) (length (left ++ later_left)) (with_later (length left) first.removed.items second.removed.items)
    removed = removed_joined left right later_left later_right apart first.removed.items second.removed.items h.removed g.removed

    added : ListsRising (IsAdded (left ++ later_left) (right ++ later_right)) (length (right ++ later_right)) (with_later (length right) first.added.items second.added.items)
    added = added_joined left right later_left later_right apart first.added.items second.added.items h.added g.added
