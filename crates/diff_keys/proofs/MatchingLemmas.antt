-- What was found, listed, is the matching of two tables.
use Rattle.std.proofs.Common.{◌≡◌, ◌<◌, ◌↔◌, ℕ, List, Option, Some, None, length, get_or, arith, ap, sym, ◌∙◌, refl, subst}
use Rattle.std.proofs.lemmas.Grind.{get_or_default_zero}
use Rattle.std.proofs.lemmas.List.Elements.{All-from_get_or, Contains-get_or}
use Rattle.std.specs.List.{Contains}
use Rattle.std.specs.Prelude.{All, slice_index}
use Rattle.diff_keys.specs.declared.matching.Matching.{Matching}
use Rattle.diff_keys.specs.Listing.{HasNone, IsOther, ListsFound}
use Rattle.diff_keys.specs.Matching.{IsAdded, IsMatching, IsRemoved}
use Rattle.diff_keys.specs.Rising.{ListsRising}
use Rattle.diff_keys.specs.Partners.{Keys, ArePartners, IsPartner}
use Rattle.diff_keys.specs.NthLaws.{partner_found}
use Rattle.diff_keys.specs.RisingLaws.{listed_as}

-- a row has one partner at most
pub one_partner : (left right : Keys) (i j k : ℕ) → ArePartners left right i j → ArePartners left right i k → j ≡ k
one_partner left right i j k a b =
    let both : Some j ≡ Some k = sym (partner_found left right i j a) ∙ partner_found left right i k b in
    cc

-- the partner that was found is the one that there is
pub is_found : (left right : Keys) (i j : ℕ) (o : Option ℕ) → IsPartner left right i o → ArePartners left right i j → o ≡ Some j
is_found left right i j None none h = absurd (none j h)
is_found left right i j (Some k) is h = ap Some (one_partner left right i k j is h)

-- no partner was found exactly where there is none
pub none_found : (left right : Keys) (i : ℕ) (o : Option ℕ) → IsPartner left right i o → (o ≡ None) ↔ IsRemoved left right i
none_found left right i None none = (λ _. none, λ _. refl)
none_found left right i (Some j) is = (λ e. absurd (cc), λ removed. absurd (removed j is))

-- the rows that were found are rows of the right table
pub found_within : (left right : Keys) (found : List (Option ℕ)) (ls rs : List ℕ) → length found ≡ length left
    → ((i : ℕ) → i < length left → IsPartner left right i (get_or found i None)) → ListsFound found (length found) ls rs → All (λ j. j < length right) rs
found_within left right found ls rs count told h = All-from_get_or (λ j. j < length right) rs 0 at
  where
    at : (k : ℕ) → k < length rs → slice_index rs k < length right
    at k within =
        let pair = h.pair k (omega (arith, within, h.one_length)) in
        let partner : ArePartners left right (slice_index ls k) (slice_index rs k) = subst (IsPartner left right (slice_index ls k)) pair.1 (told (slice_index ls k) (omega (arith, pair.0, count))) in
        partner.right_row

pub matching_is : (left right : Keys) (found : List (Option ℕ)) (m : Matching) → length found ≡ length left
    → ((i : ℕ) → i < length left → IsPartner left right i (get_or found i None))
    → ListsFound found (length found) m.left_rows.items m.right_rows.items
    → ListsRising (HasNone found) (length found) m.removed.items
    → ListsRising (IsOther m.right_rows.items) (length right) m.added.items
    → IsMatching left right m
matching_is left right found m count told pairs alone others = record {
  one_length = pairs.one_length;
  partners = partners;
  all_partners = λ i j h. pairs.each i j (omega (arith, h.left_row, count)) (is_found left right i j (get_or found i None) (told i h.left_row) h);
  in_order = pairs.in_order;
  removed = listed_as (HasNone found) (IsRemoved left right) (length left) m.removed.items
      (λ i h. none_found left right i (get_or found i None) (told i h)) (rw count at alone);
  added = listed_as (IsOther m.right_rows.items) (IsAdded left right) (length right) m.added.items added others;
}
  where
    partners : (k : ℕ) → k < length m.left_rows.items → ArePartners left right (slice_index m.left_rows.items k) (slice_index m.right_rows.items k)
    partners k within =
        let got : (slice_index m.left_rows.items k < length found) × (get_or found (slice_index m.left_rows.items k) None ≡ Some (slice_index m.right_rows.items k)) = pairs.pair k within in
        subst (λ o. IsPartner left right (slice_index m.left_rows.items k) o) got.1 (told (slice_index m.left_rows.items k) (omega (arith, got.0, count)))

    added : (j : ℕ) → j < length right → IsOther m.right_rows.items j ↔ IsAdded left right j
    added j within = (
      λ other i h.
          let (k, inside, l, r) = pairs.each i j (omega (arith, h.left_row, count)) (is_found left right i j (get_or found i None) (told i h.left_row) h) in
          other (subst (λ x. Contains m.right_rows.items x) r (Contains-get_or m.right_rows.items k 0 (omega (arith, inside, pairs.one_length)))),
      λ is_added there.
          let (k, inside, is) = there in
          let low : k < length m.left_rows.items = omega (arith, inside, pairs.one_length) in
          let at : slice_index m.right_rows.items k ≡ j = sym (get_or_default_zero m.right_rows.items k j inside) ∙ is in
          is_added (slice_index m.left_rows.items k) (subst (λ x. ArePartners left right (slice_index m.left_rows.items k) x) at (partners k low)),
    )
