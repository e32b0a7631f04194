-- Lists that are determined by what they list.
use Rattle.std.proofs.Common.{◌≡◌, ◌∙◌, ◌<◌, ◌↔◌, ◌⊎◌, ℕ, zero, suc, List, [], ◌∷◌, length, arith, sym, subst, ap, inl, inr, refl}
use Rattle.std.proofs.lemmas.List.{get_or_default}
use Rattle.std.specs.List.{Contains}
use Rattle.std.specs.Prelude.{slice_index}
use Rattle.diff_keys.specs.Matching.{IsMatching}
use Rattle.diff_keys.specs.Partners.{Keys, ArePartners}
use Rattle.diff_keys.specs.Rising.{ListsRising}
use Rattle.diff_keys.specs.declared.matching.Matching.{Matching}

-- each number is below the next one
abbrev IsRising : List ℕ → Type 0
IsRising xs = (k : ℕ) → suc k < length xs → slice_index xs k < slice_index xs (suc k)

-- two lists have the same numbers
abbrev HaveSame : List ℕ → List ℕ → Type 0
HaveSame xs ys = (i : ℕ) → Contains xs i ↔ Contains ys i

rising_rest : (x : ℕ) (xs : List ℕ) → IsRising (x ∷ xs) → IsRising xs
rising_rest x xs h k within = h (suc k) (omega (arith, within))

above_first : (x : ℕ) (xs : List ℕ) → IsRising (x ∷ xs) → (k : ℕ) → k < length xs → x < slice_index xs k
above_first x xs h zero within = h 0 (omega (arith, within))
above_first x xs h (suc k) within =
    let before : x < slice_index xs k = above_first x xs h k (omega (arith, within)) in
    let step : slice_index xs k < slice_index xs (suc k) = h (suc k) (omega (arith, within)) in
    omega (arith, before, step)

-- a number after the first one is above it
later_above : (x : ℕ) (xs : List ℕ) (i : ℕ) → IsRising (x ∷ xs) → Contains xs i → x < i
later_above x xs i h there =
    let (k, within, is) = there in
    let at : slice_index xs k ≡ i = get_or_default xs k 0 i within ∙ is in
    let above = above_first x xs h k within in
    omega (arith, at, above)

-- a number is the first one, or after it
first_or_later : (x : ℕ) (xs : List ℕ) (i : ℕ) → Contains (x ∷ xs) i → (x ≡ i) ⊎ Contains xs i
first_or_later x xs i (zero, within, is) = inl is
first_or_later x xs i (suc k, within, is) = inr (k, omega (arith, within), is)

behind_first : (x : ℕ) (xs : List ℕ) (i : ℕ) → Contains xs i → Contains (x ∷ xs) i
behind_first x xs i (k, within, is) = (suc k, omega (arith, within), is)

-- lists of the same numbers begin with the same one
same_first : (x : ℕ) (xs : List ℕ) (y : ℕ) (ys : List ℕ) → IsRising (x ∷ xs) → IsRising (y ∷ ys) → Contains (y ∷ ys) x → Contains (x ∷ xs) y → x ≡ y
same_first x xs y ys rx ry there back = elim (first_or_later y ys x there) [
  | inl is ↦ sym is
  | inr later ↦ elim (first_or_later x xs y back) [
    | inl is ↦ is
    | inr after ↦ absurd (let low = later_above y ys x ry later in let high = later_above x xs y rx after in omega (arith, low, high))
  ]
]

-- what is after the first number of one list is after that of the other
same_later : (x : ℕ) (xs : List ℕ) (y : ℕ) (ys : List ℕ) (i : ℕ) → x ≡ y → IsRising (x ∷ xs) → Contains xs i → Contains (y ∷ ys) i → Contains ys i
same_later x xs y ys i e rising here there = elim (first_or_later y ys i there) [
  | inl is ↦ absurd (let low = later_above x xs i rising here in omega (arith, low, is, e))
  | inr later ↦ later
]

-- rising lists of the same numbers are the same
same_rising : (xs ys : List ℕ) → IsRising xs → IsRising ys → HaveSame xs ys → xs ≡ ys
same_rising [] [] rx ry same = refl
same_rising [] (y ∷ ys) rx ry same = absurd (let (k, within, is) = (same y).1 (0, omega arith, refl) in omega (arith, within))
same_rising (x ∷ xs) [] rx ry same = absurd (let (k, within, is) = (same x).0 (0, omega arith, refl) in omega (arith, within))
same_rising (x ∷ xs) (y ∷ ys) rx ry same =
    let head : x ≡ y = same_first x xs y ys rx ry ((same x).0 (0, omega arith, refl)) ((same y).1 (0, omega arith, refl)) in
    let rest : xs ≡ ys = same_rising xs ys (rising_rest x xs rx) (rising_rest y ys ry)
    (λ i. (
      λ here. same_later x xs y ys i head rx here ((same i).0 (behind_first x xs i here)),
      λ here. same_later y ys x xs i (sym head) ry here ((same i).1 (behind_first y ys i here)),
    )) in
    ap (λ z. z ∷ xs) head ∙ ap (λ zs. y ∷ zs) rest

-- the numbers below n for which P holds have one list
pub one_listing : (P : ℕ → Type 0) (n : ℕ) (xs ys : List ℕ) → ListsRising P n xs → ListsRising P n ys → xs ≡ ys
one_listing P n xs ys hx hy = same_rising xs ys hx.in_order hy.in_order (λ i. (λ here. (hy.all i).1 ((hx.all i).0 here), λ here. (hx.all i).1 ((hy.all i).0 here)))

-- lists with the same numbers at the same places are the same
pub same_items : (xs ys : List ℕ) → length xs ≡ length ys → ((k : ℕ) → k < length xs → slice_index xs k ≡ slice_index ys k) → xs ≡ ys
same_items [] [] e h = refl
same_items [] (y ∷ ys) e h = absurd (omega (arith, e))
same_items (x ∷ xs) [] e h = absurd (omega (arith, e))
same_items (x ∷ xs) (y ∷ ys) e h =
    ap (λ z. z ∷ xs) (h 0 (omega arith)) ∙ ap (λ zs. y ∷ zs) (same_items xs ys (omega (arith, e)) (λ k within. h (suc k) (omega (arith, within))))

-- left row i has a partner
abbrev pub HasPartner : Keys → Keys → ℕ → Type 0
HasPartner left right i = (j : ℕ) × ArePartners left right i j

-- the rows that have a partner are listed
pub partners_listed : (left right : Keys) (m : Matching) → IsMatching left right m → ListsRising (HasPartner left right) (length left) m.left_rows.items
partners_listed left right m h = record {
  all = λ i. (
    λ there. let (k, within, is) = there in
        let at : slice_index m.left_rows.items k ≡ i = get_or_default m.left_rows.items k 0 i within ∙ is in
        let pair : ArePartners left right i (slice_index m.right_rows.items k) = subst (λ r. ArePartners left right r (slice_index m.right_rows.items k)) at (h.partners k within) in
        (pair.left_row, (slice_index m.right_rows.items k, pair)),
    λ paired. let found = h.all_partners i paired.1.0 paired.1.1 in
        (found.0, found.1, get_or_default m.left_rows.items found.0 i 0 found.1 ∙ found.2),
  );
  in_order = h.in_order;
}
