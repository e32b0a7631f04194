-- What holds of each member of an object, in any order.
use Rattle.std.proofs.Common.{ℕ, zero, suc, ◌<◌, List, [], ◌∷◌, length, get_or, arith}
use Rattle.std.proofs.lemmas.List.Elements.{All-cons, All-head, All-tail}
use Rattle.std.proofs.lemmas.List.Sorted.{All-permutation}
use Rattle.std.specs.List.{All}
use Rattle.std.specs.List.Sorted.{IsPermutation}
use Rattle.std.specs.Prelude.{map}
use Rattle.json.proofs.Trees.{member_smaller}
use Rattle.json.specs.Strict.{HasUniqueKeys, MembersHaveUniqueKeys}
use Rattle.json.specs.Tree.{json_tokens, members_tokens}
use Rattle.json.specs.Value.{value_view, members_view}
use Rattle.json_normal.proofs.SortedLemmas.{Pair, Ref}

-- what a call on the member's value asks, and that it has fewer tokens than n
pub record IsGood {A : Type 0} (n : ℕ) (m : Pair A) : Type 0 where
  pub unique : HasUniqueKeys (value_view m.1)
  pub smaller : length (json_tokens (value_view m.1)) < n

unique_at : {A : Type 0} → (ms : List (Pair A)) (k : ℕ) (d : Pair A) → k < length ms → MembersHaveUniqueKeys (members_view ms) → HasUniqueKeys (value_view (get_or ms k d).1)
unique_at [] k d h a = absurd (omega arith)
unique_at (m ∷ ms) zero d h a = a.0
unique_at (m ∷ ms) (suc k) d h a = unique_at ms k d (omega arith) a.1

good_members : {A : Type 0} → (ms : List (Pair A)) → MembersHaveUniqueKeys (members_view ms) → All (IsGood (length (members_tokens (members_view ms)))) ms
good_members ms a = λ k d h. record { unique = unique_at ms k d h a; smaller = member_smaller ms k d h }

all_refs : {A : Type 0} → (P : Pair A → Type 0) (vs : List (Ref A)) → All P (map (λ v. v.now) vs) → All (λ v. P v.now) vs
all_refs P [] a = λ k d h. absurd (omega arith)
all_refs P (v ∷ vs) a = All-cons (λ w. P w.now) v vs (All-head P v.now (map (λ w. w.now) vs) a) (all_refs P vs (All-tail P v.now (map (λ w. w.now) vs) a))

pub good_refs : {A : Type 0} → (ms : List (Pair A)) (vs : List (Ref A)) → IsPermutation ms (map (λ v. v.now) vs) → MembersHaveUniqueKeys (members_view ms)
    → All (λ v. IsGood (length (members_tokens (members_view ms))) v.now) vs
good_refs ms vs p a = let n : ℕ = length (members_tokens (members_view ms)) in all_refs (IsGood n) vs (All-permutation (IsGood n) ms (map (λ v. v.now) vs) p (good_members ms a))
