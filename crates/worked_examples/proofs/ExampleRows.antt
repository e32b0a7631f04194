-- Worked examples of rows that are matched by key and compared: 7, 1 and 8, 2 against 8, 3.
use Rattle.std.proofs.Common.{◌≡◌, ◌<◌, ℕ, zero, suc, List, [], ◌∷◌, true, false}
use Rattle.std.proofs.Common.{get_or, arith, ap, sym, subst, refl}
use Rattle.std.proofs.lemmas.Option.{same_Some}
use Rattle.std.specs.Prelude.{Contains, None, Some, codes, slice_index}
use Rattle.diff_keys.specs.Matching.{IsAdded, IsMatching, IsRemoved}
use Rattle.diff_keys.specs.NthLaws.{found_partners, partner_found}
use Rattle.diff_keys.specs.Outcome.{outcome_of}
use Rattle.diff_keys.specs.Partners.{Keys, ArePartners, count_of}
use Rattle.diff_keys.specs.Rising.{ListsRising}
use Rattle.diff_keys.specs.RisingLaws.{none_listed, one_listed, one_passed}
use Rattle.diff_keys.specs.Unique.{AllDiffer, IsFirstTwice}
use Rattle.diff_keys.specs.Waiting.{nth}
use Rattle.diff_keys.specs.declared.matching.Matching.{Matching}
use Rattle.diff_keys.specs.declared.outcome.Outcome.TheVariants.{Same, Different}
use Rattle.diff_tables.specs.Comparison.{IsComparison, IsDifferent}
use Rattle.diff_tables.specs.Keys.{escaped, row_key, row_keys}
use Rattle.diff_tables.specs.declared.compare.Comparison.{Comparison}
use Rattle.worked_examples.proofs.ExampleVectors.{vector}

-- the rows of both tables
abbrev pub old_rows : List (List (List ℕ))
old_rows = (codes "7" ∷ codes "1" ∷ []) ∷ (codes "8" ∷ codes "2" ∷ []) ∷ []

abbrev pub new_rows : List (List (List ℕ))
new_rows = (codes "8" ∷ codes "3" ∷ []) ∷ []

-- their keys: those of 7 and 8, and of 8
abbrev old_keys : Keys
old_keys = (55 ∷ 0 ∷ 0 ∷ []) ∷ (56 ∷ 0 ∷ 0 ∷ []) ∷ []

abbrev new_keys : Keys
new_keys = (56 ∷ 0 ∷ 0 ∷ []) ∷ []

keys_of_old : row_keys (0 ∷ []) old_rows ≡ old_keys
unfolding row_key escaped
keys_of_old = refl

keys_of_new : row_keys (0 ∷ []) new_rows ≡ new_keys
unfolding row_key escaped
keys_of_new = refl

-- left row 1 and right row 0 are partners
pair : ArePartners old_keys new_keys 1 0
unfolding nth count_of
pair = found_partners old_keys new_keys 1 (Some 0) (omega arith) refl

only-pair : (j : ℕ) → ArePartners old_keys new_keys 1 j → j ≡ 0
unfolding nth count_of
only-pair j partners = sym (same_Some 0 j (partner_found old_keys new_keys 1 j partners))

first-removed : IsRemoved old_keys new_keys 0
unfolding nth count_of
first-removed = found_partners old_keys new_keys 0 None (omega arith) refl

-- so left row 0 is removed, and no right row is added
abbrev pub matching : Matching
matching = record {
  left_rows = vector (1 ∷ []) (omega arith);
  right_rows = vector (0 ∷ []) (omega arith);
  removed = vector (0 ∷ []) (omega arith);
  added = vector [] (omega arith);
}

matching-is : IsMatching old_keys new_keys matching
matching-is = record {
  one_length = refl;
  partners = λ k low. at k low;
  all_partners = λ i j partners. found i j partners;
  in_order = λ k low. absurd (omega (arith, low));
  removed = removed;
  added = added;
}
  where
    at : (k : ℕ) → k < 1
        → ArePartners old_keys new_keys (slice_index (1 ∷ []) k) (slice_index (0 ∷ []) k)
    at zero low = pair
    at (suc k) low = absurd (omega (arith, low))

    found : (i j : ℕ) → ArePartners old_keys new_keys i j
        → (k : ℕ) × (k < 1) × (slice_index (1 ∷ []) k ≡ i) × (slice_index (0 ∷ []) k ≡ j)
    found zero j partners = absurd (first-removed j partners)
    found (suc zero) j partners = (0, omega arith, refl, sym (only-pair j partners))
    found (suc (suc i)) j partners =
        absurd (let low : suc (suc i) < 2 = partners.left_row in omega (arith, low))

    removed : ListsRising (IsRemoved old_keys new_keys) 2 (0 ∷ [])
    removed =
        let P : ℕ → Type 0 = IsRemoved old_keys new_keys in
        one_passed P 1 2 (0 ∷ []) (one_listed P 0 1 [] (none_listed P) first-removed refl)
        (λ gone. gone 0 pair) refl

    added : ListsRising (IsAdded old_keys new_keys) 1 []
    added =
        let P : ℕ → Type 0 = IsAdded old_keys new_keys in
        one_passed P 0 1 [] (none_listed P) (λ lone. lone 1 pair) refl

-- rows of other keys are no partners: 7 is not 8
abbrev wrong_pair : Matching
wrong_pair = record {
  left_rows = vector (0 ∷ []) (omega arith);
  right_rows = vector (0 ∷ []) (omega arith);
  removed = vector (1 ∷ []) (omega arith);
  added = vector [] (omega arith);
}

wrong-pair-not_matching : ¬ (IsMatching old_keys new_keys wrong_pair)
wrong-pair-not_matching is =
    let same : 55 ∷ 0 ∷ 0 ∷ [] ≡ 56 ∷ 0 ∷ 0 ∷ [] = (is.partners 0 (omega arith)).one_key in
    let clash : 55 ≡ 56 = ap (λ key. get_or key 0 0) same in
    omega (arith, clash)

-- 2 is not 3
two-changed : IsDifferent old_rows new_rows (1 ∷ []) (0 ∷ []) 0
two-changed same =
    let clash : 50 ≡ 51 = ap (λ row. get_or (get_or row 1 []) 0 0) same in
    omega (arith, clash)

-- so the one pair is changed
abbrev pub comparison : Comparison
comparison = record { matching = matching; changed = vector (0 ∷ []) (omega arith) }

pub comparison-is : IsComparison (0 ∷ []) old_rows new_rows comparison
comparison-is = record {
  matching = subst (λ keys. IsMatching keys (row_keys (0 ∷ []) new_rows) matching) (sym keys_of_old)
      (subst (λ keys. IsMatching old_keys keys matching) (sym keys_of_new) matching-is);
  changed =
      let P : ℕ → Type 0 = IsDifferent old_rows new_rows (1 ∷ []) (0 ∷ []) in
      one_listed P 0 1 [] (none_listed P) two-changed refl;
}

-- a comparison that does not list it is none of these rows
unchanged-not_comparison :
    ¬ (IsComparison (0 ∷ []) old_rows new_rows
    (record { matching = matching; changed = vector [] (omega arith) }))
unchanged-not_comparison is =
    let there : Contains {X = ℕ} [] 0 = (is.changed.all 0).1 (omega arith, two-changed) in
    let low = there.1 in
    omega (arith, low)

-- a row is removed: the tables differ
outcome-removed : outcome_of matching [] true ≡ Different
outcome-removed = refl

-- without a difference they are the same, unless a table has a column alone
abbrev no_difference : Matching
no_difference = record {
  left_rows = vector (0 ∷ []) (omega arith);
  right_rows = vector (0 ∷ []) (omega arith);
  removed = vector [] (omega arith);
  added = vector [] (omega arith);
}

outcome-same : outcome_of no_difference [] true ≡ Same
outcome-same = refl

outcome-columns : outcome_of no_difference [] false ≡ Different
outcome-columns = refl

-- the keys of 7 and 8 differ
pub old-unique : AllDiffer (row_keys (0 ∷ []) old_rows)
old-unique = subst AllDiffer (sym keys_of_old) apart
  where
    apart : AllDiffer old_keys
    apart zero zero before low e = omega (arith, before)
    apart zero (suc zero) before low e =
        let clash : 55 ≡ 56 = ap (λ key. get_or key 0 0) e in
        omega (arith, clash)
    apart (suc i) zero before low e = omega (arith, before)
    apart (suc i) (suc zero) before low e = omega (arith, before)
    apart i (suc (suc j)) before low e = omega (arith, low)

-- the rows 7, 1 and 7, 2 have one key
abbrev pub twice_rows : List (List (List ℕ))
twice_rows = (codes "7" ∷ codes "1" ∷ []) ∷ (codes "7" ∷ codes "2" ∷ []) ∷ []

pub seven-twice : IsFirstTwice (row_keys (0 ∷ []) twice_rows) (record { first = 0; again = 1 })
unfolding row_key escaped
seven-twice =
    record {
      in_order = omega arith;
      within = omega arith;
      one_key = refl;
      none_before =
          λ i j before low. absurd (omega (arith, before, low));
    }
