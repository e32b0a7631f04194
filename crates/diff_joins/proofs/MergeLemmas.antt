-- Tables that are merged row by row.
use Rattle.std.proofs.Common.{◌≡◌, ◌∙◌, ◌+◌, ◌<◌, ◌≤◌, ◌⊎◌, ℕ, Bool, true, false, List, [], ◌∷◌, ◌++◌, Option, Some, None, arith, sym, refl, subst, inl, inr}
use Rattle.std.proofs.lemmas.Bool.{cases_lt}
use Rattle.std.specs.Str.{bytes_eq}
use Rattle.diff_joins.specs.Merge.{ComesBefore, ComesBehind, IsMerged, IsOrder, MergesAdded, MergesNone, MergesOn, MergesPair, MergesRemoved}
use Rattle.diff_joins.proofs.MoreLemmas.{matches_added, matches_pair, matches_removed}
use Rattle.diff_joins.proofs.PlaceLemmas.{count_append}
use Rattle.diff_keys.specs.NthLaws.{same_bytes}
use Rattle.diff_keys.specs.Partners.{Keys, count_of, one_more}

-- a truth value is not both
not_both : (b : Bool) → b ≡ false → b ≡ true → ⊥
not_both b off on = let clash : false ≡ true = sym off ∙ on in cc

-- how many rows have a key, with one row more: one more where it is the row's, and else as many
counted : (q : List ℕ) (xs : Keys) (key : List ℕ) → ((key ≡ q) × (count_of q (xs ++ key ∷ []) ≡ count_of q xs + 1)) ⊎ (count_of q (xs ++ key ∷ []) ≡ count_of q xs)
unfolding count_of
counted q xs key = at (bytes_eq key q) refl (count_append q xs (key ∷ []))
  where
    at : (b : Bool) → bytes_eq key q ≡ b → count_of q (xs ++ key ∷ []) ≡ count_of q xs + one_more b 0
        → ((key ≡ q) × (count_of q (xs ++ key ∷ []) ≡ count_of q xs + 1)) ⊎ (count_of q (xs ++ key ∷ []) ≡ count_of q xs)
    at true e h = inl (same_bytes key q e, omega (arith, h))
    at false e h = inr (omega (arith, h))

-- both tables get one more
counted_both : (q : List ℕ) (xs ys : Keys) (key : List ℕ) → count_of q (xs ++ key ∷ []) < count_of q (ys ++ key ∷ []) → count_of q xs < count_of q ys
counted_both q xs ys key less =
    let x = count_append q xs (key ∷ []) in
    let y = count_append q ys (key ∷ []) in
    omega (arith, less, x, y)

-- the next key goes on
before_later : (less : List ℕ → List ℕ → Bool) → IsOrder less → (key : List ℕ) (next later : Option (List ℕ)) → ComesBefore less key next → ComesBehind less next later → ComesBefore less key later
before_later less order key None None h g = tt
before_later less order key None (Some later) h g = absurd g
before_later less order key (Some next) None h g = tt
before_later less order key (Some next) (Some later) h g = elim g [
  | inl same ↦ subst (λ k. less key k ≡ true) same h
  | inr behind ↦ order.transitive key next later h behind
]

pub merges_none : MergesNone
unfolding count_of
merges_none less next_left next_right m h = record {
  matching = h;
  left_alone = λ key more. absurd (omega (arith, more));
  right_alone = λ key more. absurd (omega (arith, more));
}

pub merges_on : MergesOn
merges_on less left right next_left next_right later_left later_right m order h on_left on_right = record {
  matching = h.matching;
  left_alone = λ key more. before_later less order key next_right later_right (h.left_alone key more) on_right;
  right_alone = λ key more. before_later less order key next_left later_left (h.right_alone key more) on_left;
}

pub merges_pair : MergesPair
merges_pair less left right key before after order h m =
    let no_fewer : count_of key right ≤ count_of key left = elim (cases_lt (count_of key left) (count_of key right)) [
      | inl more ↦ absurd (not_both (less key key) (order.irreflexive key) (h.right_alone key more))
      | inr few ↦ few
    ] in
    let no_more : count_of key left ≤ count_of key right = elim (cases_lt (count_of key right) (count_of key left)) [
      | inl more ↦ absurd (not_both (less key key) (order.irreflexive key) (h.left_alone key more))
      | inr few ↦ few
    ] in
    record {
      matching = matches_pair left right key before after (omega (arith, no_fewer, no_more)) h.matching m;
      left_alone = λ q more. h.left_alone q (counted_both q right left key more);
      right_alone = λ q more. h.right_alone q (counted_both q left right key more);
    }

pub merges_removed : MergesRemoved
merges_removed less left right key next_right before after order h first m =
    let few : count_of key right ≤ count_of key left = elim (cases_lt (count_of key left) (count_of key right)) [
      | inl more ↦ absurd (not_both (less key key) (order.irreflexive key) (h.right_alone key more))
      | inr few ↦ few
    ] in
    record {
      matching = matches_removed left right key before after few h.matching m;
      left_alone = λ q more. elim (counted q left key) [
        | inl own ↦ subst (λ k. ComesBefore less k next_right) own.0 first
        | inr same ↦ h.left_alone q (omega (arith, more, same))
      ];
      right_alone = λ q more. elim (counted q left key) [
        | inl own ↦ let is = own.1 in h.right_alone q (omega (arith, more, is))
        | inr same ↦ h.right_alone q (omega (arith, more, same))
      ];
    }

pub merges_added : MergesAdded
merges_added less left right key next_left before after order h first m =
    let few : count_of key left ≤ count_of key right = elim (cases_lt (count_of key right) (count_of key left)) [
      | inl more ↦ absurd (not_both (less key key) (order.irreflexive key) (h.left_alone key more))
      | inr few ↦ few
    ] in
    record {
      matching = matches_added left right key before after few h.matching m;
      left_alone = λ q more. elim (counted q right key) [
        | inl own ↦ let is = own.1 in h.left_alone q (omega (arith, more, is))
        | inr same ↦ h.left_alone q (omega (arith, more, same))
      ];
      right_alone = λ q more. elim (counted q right key) [
        | inl own ↦ subst (λ k. ComesBefore less k next_left) own.0 first
        | inr same ↦ h.right_alone q (omega (arith, more, same))
      ];
    }
