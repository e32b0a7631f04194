-- The partners of right rows, as they are found.
use Rattle.std.proofs.Common.{◌≡◌, ◌≢◌, ◌<◌, ◌∙◌, ◌⊎◌, inl, inr, ℕ, suc, List, Option, Some, None, length, get_or, set, replicate, arith, sym, ap, subst, refl}
use Rattle.std.proofs.lemmas.Bool.{cases_eq}
use Rattle.std.proofs.lemmas.List.{get_or-set_same, get_or-set_other, get_or-replicate, length-set, length-replicate}
use Rattle.std.proofs.lemmas.List.Elements.{All-from_get_or}
use Rattle.std.specs.Prelude.{All, slice_index}
use Rattle.diff_keys.specs.Matching.{IsMatching}
use Rattle.diff_keys.specs.Partners.{ArePartners, Keys}
use Rattle.diff_keys.specs.declared.matching.Matching.{Matching}
use Rattle.diff_tolerances.specs.Partners.{AreBeside, ArePartnersOf, IsBeside, IsPartnerOf}

pub none_found : (ls rs : List ℕ) (n : ℕ) (found : List (Option ℕ)) → found ≡ replicate n None → AreBeside ls rs n 0 found
none_found ls rs n found e = rw e (record {
  count = length-replicate n None;
  each = λ j inside. subst (λ o. IsBeside ls rs 0 j o) (sym (get_or-replicate n j None None inside)) (λ t below. absurd (omega (arith, below)));
})

still_found : (ls rs : List ℕ) (k m j : ℕ) (o : Option ℕ) → m ≡ suc k → slice_index rs k ≢ j → IsBeside ls rs k j o → IsBeside ls rs m j o
still_found ls rs k m j None e apart h = λ t below. elim (cases_eq t k) [
  | inl here ↦ λ is. apart (ap (slice_index rs) (sym here) ∙ is)
  | inr other ↦ h t (omega (arith, below, e))
]
still_found ls rs k m j (Some i) e apart (t, below, r, l) = (t, omega (arith, below, e), r, l)

pub one_found : (ls rs : List ℕ) (n k m : ℕ) (found : List (Option ℕ)) → AreBeside ls rs n k found → slice_index rs k < n → m ≡ suc k
    → AreBeside ls rs n m (set found (slice_index rs k) (Some (slice_index ls k)))
one_found ls rs n k m found h below e = record {
  count = length-set found (slice_index rs k) (Some (slice_index ls k)) ∙ h.count;
  each = λ j inside. at j inside (cases_eq j (slice_index rs k));
}
  where
    at : (j : ℕ) → j < n → (j ≡ slice_index rs k) ⊎ (j ≢ slice_index rs k) → IsBeside ls rs m j (get_or (set found (slice_index rs k) (Some (slice_index ls k))) j None)
    at j inside (inl here) =
        subst (λ o. IsBeside ls rs m j o) (sym (ap (λ p. get_or (set found (slice_index rs k) (Some (slice_index ls k))) p None) here ∙ get_or-set_same found (slice_index rs k) (Some (slice_index ls k)) None (omega (arith, below, h.count))))
        (k, omega (arith, e), sym here, refl)
    at j inside (inr apart) =
        subst (λ o. IsBeside ls rs m j o) (sym (get_or-set_other found (slice_index rs k) j (Some (slice_index ls k)) None apart))
        (still_found ls rs k m j (get_or found j None) e (λ is. apart (sym is)) (h.each j inside))

partner_is : (left right : Keys) (m : Matching) (k j : ℕ) (o : Option ℕ) → IsMatching left right m → k ≡ length m.right_rows.items → IsBeside m.left_rows.items m.right_rows.items k j o
    → IsPartnerOf left right j o
partner_is left right m k j None h e none = λ i partners.
    let (t, inside, l, r) = h.all_partners i j partners in
    none t (omega (arith, inside, h.one_length, e)) r
partner_is left right m k j (Some i) h e (t, below, r, l) =
    subst (λ x. ArePartners left right x j) l (subst (λ y. ArePartners left right (slice_index m.left_rows.items t) y) r (h.partners t (omega (arith, below, h.one_length, e))))

all_found : (left right : Keys) (m : Matching) (n : ℕ) (found : List (Option ℕ)) → AreBeside m.left_rows.items m.right_rows.items n (length m.right_rows.items) found → length right ≡ n
    → IsMatching left right m → ArePartnersOf left right found
all_found left right m n found h few matching = record {
  one_each = h.count ∙ sym few;
  each = λ j inside. partner_is left right m (length m.right_rows.items) j (get_or found j None) matching refl (h.each j (omega (arith, inside, few)));
}

-- the left rows beside matched right rows are their partners
pub partners_found : (left right : Keys) (m : Matching) (n : ℕ) (ls rs : List ℕ) (found : List (Option ℕ)) → ls ≡ m.left_rows.items → rs ≡ m.right_rows.items → AreBeside ls rs n (length rs) found
    → length right ≡ n → IsMatching left right m → ArePartnersOf left right found
partners_found left right m n ls rs found l r h few matching = all_found left right m n found (rw (l, r) at h) few matching

-- matched right rows are rows of the right table
pub right_within : (left right : Keys) (m : Matching) (n : ℕ) (rs : List ℕ) → rs ≡ m.right_rows.items → length right ≡ n → IsMatching left right m → All (λ j. j < n) rs
right_within left right m n rs r few matching = rw r (All-from_get_or (λ j. j < n) m.right_rows.items 0 (λ k inside.
    let row = (matching.partners k (omega (arith, inside, matching.one_length))).right_row in omega (arith, row, few)))
