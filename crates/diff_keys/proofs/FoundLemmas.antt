-- Items that are appended one for each number.
use Rattle.std.proofs.Common.{◌≡◌, ◌<◌, ◌≤◌, ◌+◌, ◌-◌, ℕ, suc, List, [], ◌∷◌, ◌++◌, Option, get_or, length, mod-lt, arith, ap, ◌∙◌, ◌⊎◌, inl, inr, ◌≢◌}
use Rattle.std.proofs.lemmas.Bool.{cases_eq}
use Rattle.std.proofs.lemmas.Grind.{common_steps}
use Rattle.std.proofs.lemmas.List.{get_or_append_left, get_or_default, get_or_push}
use Rattle.diff_keys.specs.Chains.{AreChained, Waits, class_of}
use Rattle.diff_keys.specs.Found.{AreClasses, AreEach, HaveFound}
use Rattle.diff_keys.specs.Hashes.{key_hash}
use Rattle.diff_keys.specs.Partners.{Keys, count_of, key_at}
use Rattle.diff_keys.specs.declared.waiting.Waiting.{Waiting}
use Rattle.diff_keys.proofs.ChainLemmas.{chained_same}

pub each_push : {A : Type 0} (P : ℕ → A → Type 0) (d : A) (start i : ℕ) (items : List A) (x : A) → start ≤ i → AreEach P d start i items → P i x → AreEach P d start (suc i) (items ++ x ∷ [])
each_push {A} P d start i items x rise h holds = record {
  one_each = grind (arith, common_steps, h.one_each);
  each = λ k low high. at k low high (cases_eq k i);
}
  where
    last : length items ≡ i - start
    last = let count = h.one_each in omega (arith, count)

    at : (k : ℕ) → start ≤ k → k < suc i → (k ≡ i) ⊎ (k ≢ i) → P k (get_or (items ++ x ∷ []) (k - start) d)
    at k low high (inl here) = rw (here, get_or_push items x d (i - start) last) holds
    at k low high (inr apart) =
        let count = h.one_each in
        rw (get_or_append_left items (x ∷ []) d (k - start) (omega (arith, low, high, apart, count))) (h.each k low (omega (arith, high, apart)))

-- classes are less than their count
pub classes_below : (left : Keys) (count start end : ℕ) (classes : List ℕ) → AreClasses left count start end classes → 0 < count → (k d : ℕ) → k < length classes → get_or classes k d < count
classes_below left count start end classes h some k d low =
    let here : k ≡ (start + k) - start = omega arith in
    let within : start + k < end = let whole = h.one_each in omega (arith, whole, low) in
    let class : get_or classes ((start + k) - start) 0 ≡ class_of count (key_at left (start + k)) = h.each (start + k) (omega arith) within in
    let there : get_or classes k 0 ≡ class_of count (key_at left (start + k)) = ap (λ m. get_or classes m 0) here ∙ class in
    rw (get_or_default classes k d 0 low, there) (mod-lt (key_hash (key_at left (start + k))) some)

-- before any left row has found its partner all right rows wait
pub found_none : (left right : Keys) (w : Waiting) (found : List (Option ℕ)) → AreChained right (λ x. 0 ≤ x) w.heads.items w.next.items → found ≡ [] → HaveFound left right 0 w found
unfolding count_of
found_none left right w found chains none = record {
  waiting = chained_same right (λ x. 0 ≤ x) (Waits left right 0) w.heads.items w.next.items chains (λ x inside h. omega arith) (λ x inside h. omega arith);
  one_each = ap length none;
  told = λ t low. absurd (omega (arith, low));
}
