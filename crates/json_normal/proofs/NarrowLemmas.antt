-- Narrow numbers of the items and the members of a value.
use Rattle.std.proofs.Common.{◌≡◌, List, [], ◌∷◌, arith, sym, subst}
use Rattle.std.proofs.lemmas.List.Elements.{All-cons, All-head, All-tail}
use Rattle.std.proofs.lemmas.List.Sorted.{All-permutation, IsPermutation-sym}
use Rattle.std.specs.List.{All}
use Rattle.std.specs.List.Sorted.{IsPermutation}
use Rattle.std.specs.Prelude.{map, Ok, Err, Result}
use Rattle.json.specs.Value.{value_view, members_view}
use Rattle.json_decimals.specs.declared.error.NumberError.{NumberError}
use Rattle.json_decimals.specs.declared.error.NumberError.TheVariants.{WideExponent}
use Rattle.json_normal.specs.Narrow.{HasNarrowNumbers, MembersHaveNarrowNumbers, TellsNarrow}
use Rattle.json_normal.proofs.SortedLemmas.{Pair, Ref}

-- another statement that holds where the first one does
pub tells_alike : {T : Type 0} (r : Result T NumberError) (P Q : Type 0) → (P → Q) → (Q → P) → TellsNarrow r P → TellsNarrow r Q
tells_alike (Ok x) P Q f g h = f h
tells_alike (Err e) P Q f g h = λ wide q. h wide (g q)

-- a failure that a part of the value made
pub tells_part : {T : Type 0} (r : Result T NumberError) (e : NumberError) (P Q : Type 0) → r ≡ Err e → (Q → P) → (e ≡ WideExponent → ¬ P) → TellsNarrow r Q
tells_part {T} r e P Q is g h = subst (λ (s : Result T NumberError). TellsNarrow s Q) (sym is) (λ wide q. h wide (g q))

abbrev pub Narrow : {A : Type 0} → Pair A → Type 0
Narrow m = HasNarrowNumbers (value_view m.1)

of_members : {A : Type 0} → (ms : List (Pair A)) → MembersHaveNarrowNumbers (members_view ms) → All Narrow ms
of_members [] h = λ k d l. absurd (omega arith)
of_members (m ∷ ms) h = All-cons Narrow m ms h.0 (of_members ms h.1)

to_members : {A : Type 0} → (ms : List (Pair A)) → All Narrow ms → MembersHaveNarrowNumbers (members_view ms)
to_members [] a = tt
to_members (m ∷ ms) a = (All-head Narrow m ms a, to_members ms (All-tail Narrow m ms a))

refs : {A : Type 0} → (vs : List (Ref A)) → All Narrow (map (λ v. v.now) vs) → All (λ v. Narrow v.now) vs
refs [] a = λ k d h. absurd (omega arith)
refs (v ∷ vs) a = All-cons (λ w. Narrow w.now) v vs (All-head Narrow v.now (map (λ w. w.now) vs) a) (refs vs (All-tail Narrow v.now (map (λ w. w.now) vs) a))

from_refs : {A : Type 0} → (vs : List (Ref A)) → All (λ v. Narrow v.now) vs → All Narrow (map (λ v. v.now) vs)
from_refs [] a = λ k d h. absurd (omega arith)
from_refs (v ∷ vs) a = All-cons Narrow v.now (map (λ w. w.now) vs) (All-head (λ w. Narrow w.now) v vs a) (from_refs vs (All-tail (λ w. Narrow w.now) v vs a))

pub narrow_refs : {A : Type 0} → (ms : List (Pair A)) (vs : List (Ref A)) → IsPermutation ms (map (λ v. v.now) vs) → MembersHaveNarrowNumbers (members_view ms) → All (λ v. Narrow v.now) vs
narrow_refs ms vs p h = refs vs (All-permutation Narrow ms (map (λ v. v.now) vs) p (of_members ms h))

pub narrow_members : {A : Type 0} → (ms : List (Pair A)) (vs : List (Ref A)) → IsPermutation ms (map (λ v. v.now) vs) → All (λ v. Narrow v.now) vs → MembersHaveNarrowNumbers (members_view ms)
narrow_members ms vs p a = to_members ms (All-permutation Narrow (map (λ v. v.now) vs) ms (IsPermutation-sym ms (map (λ v. v.now) vs) p) (from_refs vs a))
