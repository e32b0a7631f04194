-- Lemmas: numbers that are listed one after another.
use Rattle.std.proofs.Common.{◌≡◌, ◌<◌, ◌≤◌, ◌↔◌, ℕ, suc, List, [], ◌∷◌, ◌++◌, length, arith, sym}
use Rattle.std.proofs.Common.{subst, ◌⊎◌, inl, inr, ◌≢◌}
use Rattle.std.proofs.lemmas.Bool.{cases_eq}
use Rattle.std.proofs.lemmas.Grind.{common_steps}
use Rattle.std.proofs.lemmas.List.{get_or_append_left, get_or_push}
use Rattle.std.proofs.lemmas.List.Elements.{Contains-get_or, Contains-push, Contains-push_cases}
use Rattle.std.proofs.lemmas.List.Elements.{Contains-append_left}
use Rattle.std.specs.List.{Contains}
use Rattle.std.specs.Prelude.{slice_index}
use Rattle.diff_keys.specs.Rising.{ListsRising}

-- rising numbers still rise once a greater number stands after them
pub rising_push : (rows : List ℕ) (n : ℕ) → ((k : ℕ) → k < length rows → slice_index rows k < n)
    → ((k : ℕ) → suc k < length rows → slice_index rows k < slice_index rows (suc k))
    → (k : ℕ) → suc k < length (rows ++ n ∷ [])
    → slice_index (rows ++ n ∷ []) k < slice_index (rows ++ n ∷ []) (suc k)
rising_push rows n below rising k within = at (cases_eq (suc k) (length rows))
  where
    here : suc k ≤ length rows
    here = grind (arith, common_steps, within)

    old : slice_index (rows ++ n ∷ []) k ≡ slice_index rows k
    old = get_or_append_left rows (n ∷ []) 0 k (omega (arith, here))

    at : (suc k ≡ length rows) ⊎ (suc k ≢ length rows)
        → slice_index (rows ++ n ∷ []) k < slice_index (rows ++ n ∷ []) (suc k)
    at (inl last) =
        let end : slice_index (rows ++ n ∷ []) (suc k)
        ≡ n = get_or_push rows n 0 (suc k) (sym last) in
        rw (old, end) (below k (omega (arith, here)))
    at (inr apart) =
        let next : slice_index (rows ++ n ∷ []) (suc k)
        ≡ slice_index rows (suc k) =
        get_or_append_left rows (n ∷ []) 0 (suc k) (omega (arith, here, apart)) in
        rw (old, next) (rising k (omega (arith, here, apart)))

pub none_listed : (P : ℕ → Type 0) → ListsRising P 0 []
none_listed P = record {
  all = λ i. (
    λ there. absurd (let (k, inside, is) = there in omega (arith, inside)),
    λ h. absurd
        (let low : i < 0 = h.0 in omega (arith, low)),
  );
  in_order = λ k within. absurd (omega (arith, within));
}

-- listed numbers are less than n
pub listed_below : (P : ℕ → Type 0) (n : ℕ) (rows : List ℕ) → ListsRising P n rows → (k : ℕ)
    → k < length rows → slice_index rows k < n
listed_below P n rows h k within =
    ((h.all (slice_index rows k)).0 (Contains-get_or rows k 0 within)).0

pub one_listed : (P : ℕ → Type 0) (n m : ℕ) (rows : List ℕ) → ListsRising P n rows → P n → m ≡ suc n
    → ListsRising P m (rows ++ n ∷ [])
one_listed P n m rows h holds e = record {
  all = λ i. (
    λ there. elim (Contains-push_cases rows n i there) [
      | inl old ↦ let was : (i < n) × P i = (h.all i).0 old in (omega (arith, was.0, e), was.1)
      | inr same ↦ (omega (arith, same, e), subst P same holds)
    ],
    λ is. back i (cases_eq i n) is,
  );
  in_order = rising_push rows n (listed_below P n rows h) h.in_order;
}
  where
    back : (i : ℕ) → (i ≡ n) ⊎ (i ≢ n) → (i < m) × P i → Contains (rows ++ n ∷ []) i
    back i (inl here) is = rw here (Contains-push rows n)
    back i (inr apart) is =
        Contains-append_left rows (n ∷ []) i
        ((h.all i).1 (let low : i < m = is.0 in omega (arith, low, apart, e), is.1))

pub one_passed : (P : ℕ → Type 0) (n m : ℕ) (rows : List ℕ) → ListsRising P n rows → ¬ (P n) → m
    ≡ suc n → ListsRising P m rows
one_passed P n m rows h fails e = record {
  all = λ i. (
    λ there. let was : (i < n) × P i = (h.all i).0 there in (omega (arith, was.0, e), was.1),
    λ is. back i (cases_eq i n) is,
  );
  in_order = h.in_order;
}
  where
    back : (i : ℕ) → (i ≡ n) ⊎ (i ≢ n) → (i < m) × P i → Contains rows i
    back i (inl here) is = absurd (fails (subst P here is.1))
    back i (inr apart) is =
        (h.all i).1 (let low : i < m = is.0 in omega (arith, low, apart, e), is.1)

-- the numbers for which P holds are listed as those for which Q holds, if P and Q agree
pub listed_as : (P Q : ℕ → Type 0) (n : ℕ) (rows : List ℕ) → ((i : ℕ) → i < n → P i ↔ Q i)
    → ListsRising P n rows → ListsRising Q n rows
listed_as P Q n rows same h = record {
  all = λ i. (
    λ there. let was : (i < n) × P i = (h.all i).0 there in (was.0, (same i was.0).0 was.1),
    λ is. (h.all i).1 (is.0, (same i is.0).1 is.1),
  );
  in_order = h.in_order;
}
