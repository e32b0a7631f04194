-- The worked example of a report: how the rows of the two texts of docs/DIFF.md are matched and compared.
use Rattle.std.proofs.Common.{◌≡◌, ◌<◌, ◌∙◌, ℕ, zero, suc, List, [], ◌∷◌, length, get_or, arith, sym, ap, subst, refl}
use Rattle.std.proofs.lemmas.Option.{none-some, same_Some}
use Rattle.std.specs.Prelude.{None, Some, codes, slice_index}
use Rattle.diff_keys.specs.Matching.{IsAdded, IsMatching, IsRemoved}
use Rattle.diff_keys.specs.NthLaws.{found_partners, partner_found}
use Rattle.diff_keys.specs.Partners.{Keys, ArePartners, count_of}
use Rattle.diff_keys.specs.Rising.{ListsRising}
use Rattle.diff_keys.specs.RisingLaws.{none_listed, one_listed, one_passed}
use Rattle.diff_keys.specs.SameLaws.{partners_back}
use Rattle.diff_keys.specs.Waiting.{nth}
use Rattle.diff_keys.specs.declared.matching.Matching.{Matching}
use Rattle.diff_tables.specs.Comparison.{IsComparison, IsDifferent}
use Rattle.diff_tables.specs.Keys.{escaped, row_key, row_keys}
use Rattle.diff_tables.specs.declared.compare.Comparison.{Comparison}
use Rattle.diff_run.proofs.OnceLemmas.{HasPartner, one_listing, partners_listed, same_items}

-- the keys of both texts: of 1, 2, 3, and of 1, 3, 4
abbrev pub old_keys : Keys
old_keys = (49 ∷ 0 ∷ 0 ∷ []) ∷ (50 ∷ 0 ∷ 0 ∷ []) ∷ (51 ∷ 0 ∷ 0 ∷ []) ∷ []

abbrev pub new_keys : Keys
new_keys = (49 ∷ 0 ∷ 0 ∷ []) ∷ (51 ∷ 0 ∷ 0 ∷ []) ∷ (52 ∷ 0 ∷ 0 ∷ []) ∷ []

first-pair : ArePartners old_keys new_keys 0 0
unfolding nth count_of
first-pair = found_partners old_keys new_keys 0 (Some 0) (omega arith) refl

last-pair : ArePartners old_keys new_keys 2 1
unfolding nth count_of
last-pair = found_partners old_keys new_keys 2 (Some 1) (omega arith) refl

second-removed : IsRemoved old_keys new_keys 1
unfolding nth count_of
second-removed = found_partners old_keys new_keys 1 None (omega arith) refl

last-added : IsAdded old_keys new_keys 2
unfolding nth count_of
last-added i h = none-some i (partner_found new_keys old_keys 2 i (partners_back old_keys new_keys i 2 h))

first-partner : (j : ℕ) → ArePartners old_keys new_keys 0 j → j ≡ 0
unfolding nth count_of
first-partner j h = sym (same_Some 0 j (partner_found old_keys new_keys 0 j h))

last-partner : (j : ℕ) → ArePartners old_keys new_keys 2 j → j ≡ 1
unfolding nth count_of
last-partner j h = sym (same_Some 1 j (partner_found old_keys new_keys 2 j h))

old-paired : ListsRising (HasPartner old_keys new_keys) 3 (0 ∷ 2 ∷ [])
old-paired =
    let P : ℕ → Type 0 = HasPartner old_keys new_keys in
    one_listed P 2 3 (0 ∷ []) (one_passed P 1 2 (0 ∷ []) (one_listed P 0 1 [] (none_listed P) (0, first-pair) refl) (λ h. second-removed h.0 h.1) refl) (1, last-pair) refl

old-removed : ListsRising (IsRemoved old_keys new_keys) 3 (1 ∷ [])
old-removed =
    let P : ℕ → Type 0 = IsRemoved old_keys new_keys in
    one_passed P 2 3 (1 ∷ []) (one_listed P 1 2 [] (one_passed P 0 1 [] (none_listed P) (λ h. h 0 first-pair) refl) second-removed refl) (λ h. h 1 last-pair) refl

new-added : ListsRising (IsAdded old_keys new_keys) 3 (2 ∷ [])
new-added =
    let P : ℕ → Type 0 = IsAdded old_keys new_keys in
    one_listed P 2 3 [] (one_passed P 1 2 [] (one_passed P 0 1 [] (none_listed P) (λ h. h 0 first-pair) refl) (λ h. h 2 last-pair) refl) last-added refl

-- the rows of both texts, each as its cells in the columns id, city and amount
abbrev pub old_rows : List (List (List ℕ))
old_rows = (codes "1" ∷ codes "Oslo" ∷ codes "12.50" ∷ []) ∷ (codes "2" ∷ codes "Bergen" ∷ codes "3" ∷ []) ∷ (codes "3" ∷ codes "Molde" ∷ codes "1" ∷ []) ∷ []

abbrev pub new_rows : List (List (List ℕ))
new_rows = (codes "1" ∷ codes "Bergen" ∷ codes "12.75" ∷ []) ∷ (codes "3" ∷ codes "Molde" ∷ codes "1" ∷ []) ∷ (codes "4" ∷ codes "Hamar" ∷ codes "9" ∷ []) ∷ []

keys-of-old : row_keys (0 ∷ []) old_rows ≡ old_keys
unfolding row_key escaped
keys-of-old = refl

keys-of-new : row_keys (0 ∷ []) new_rows ≡ new_keys
unfolding row_key escaped
keys-of-new = refl

-- of the two pairs the first one differs
first-changed : ListsRising (IsDifferent old_rows new_rows (0 ∷ 2 ∷ []) (0 ∷ 1 ∷ [])) 2 (0 ∷ [])
first-changed =
    let P : ℕ → Type 0 = IsDifferent old_rows new_rows (0 ∷ 2 ∷ []) (0 ∷ 1 ∷ []) in
    one_passed P 1 2 (0 ∷ []) (one_listed P 0 1 [] (none_listed P) (λ same. let e : 79 ≡ 66 = ap (λ row. get_or (get_or row 1 []) 0 0) same in omega (arith, e)) refl) (λ apart. apart refl) refl

-- what a matching of these keys is
pub record IsExampleMatching (m : Matching) : Type 0 where
  pub left_rows : m.left_rows.items ≡ 0 ∷ 2 ∷ []
  pub right_rows : m.right_rows.items ≡ 0 ∷ 1 ∷ []
  pub removed : m.removed.items ≡ 1 ∷ []
  pub added : m.added.items ≡ 2 ∷ []

pub example_matching : (m : Matching) → IsMatching old_keys new_keys m → IsExampleMatching m
example_matching m h = record {
  left_rows = left;
  right_rows = sym (same_items (0 ∷ 1 ∷ []) m.right_rows.items (ap length (sym left) ∙ h.one_length) partner);
  removed = one_listing (IsRemoved old_keys new_keys) 3 m.removed.items (1 ∷ []) h.removed old-removed;
  added = one_listing (IsAdded old_keys new_keys) 3 m.added.items (2 ∷ []) h.added new-added;
}
  where
    left : m.left_rows.items ≡ 0 ∷ 2 ∷ []
    left = one_listing (HasPartner old_keys new_keys) 3 m.left_rows.items (0 ∷ 2 ∷ []) (partners_listed old_keys new_keys m h) old-paired

    pair : (k : ℕ) → k < 2 → ArePartners old_keys new_keys (slice_index (0 ∷ 2 ∷ []) k) (slice_index m.right_rows.items k)
    pair k within = subst (λ rows. ArePartners old_keys new_keys (slice_index rows k) (slice_index m.right_rows.items k)) left
        (h.partners k (let two : length m.left_rows.items ≡ 2 = ap length left in omega (arith, two, within)))

    partner : (k : ℕ) → k < 2 → slice_index (0 ∷ 1 ∷ []) k ≡ slice_index m.right_rows.items k
    partner zero within = sym (first-partner (slice_index m.right_rows.items 0) (pair 0 within))
    partner (suc zero) within = sym (last-partner (slice_index m.right_rows.items 1) (pair 1 within))
    partner (suc (suc k)) within = absurd (omega (arith, within))

-- what a comparison of these rows is
pub record IsExampleComparison (c : Comparison) : Type 0 where
  pub matching : IsExampleMatching c.matching
  pub changed : c.changed.items ≡ 0 ∷ []

pub example_comparison : (c : Comparison) → IsComparison (0 ∷ []) old_rows new_rows c → IsExampleComparison c
example_comparison c h = record { matching = matching; changed = one_listing (IsDifferent old_rows new_rows (0 ∷ 2 ∷ []) (0 ∷ 1 ∷ [])) 2 c.changed.items (0 ∷ []) listed first-changed }
  where
    matching : IsExampleMatching c.matching
    matching = example_matching c.matching (subst (λ keys. IsMatching old_keys keys c.matching) keys-of-new (subst (λ keys. IsMatching keys (row_keys (0 ∷ []) new_rows) c.matching) keys-of-old h.matching))

    listed : ListsRising (IsDifferent old_rows new_rows (0 ∷ 2 ∷ []) (0 ∷ 1 ∷ [])) 2 c.changed.items
    listed = subst (λ right. ListsRising (IsDifferent old_rows new_rows (0 ∷ 2 ∷ []) right) 2 c.changed.items) matching.right_rows
        (subst (λ left. ListsRising (IsDifferent old_rows new_rows left c.matching.right_rows.items) (length left) c.changed.items) matching.left_rows h.changed)
