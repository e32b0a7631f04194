-- Keys that are seen one after another.
use Rattle.std.proofs.Common.{◌≡◌, ◌<◌, ℕ, suc, Bool, true, false, List, Option, Some, None, length, if◌then◌else◌, arith, ap, sym, ◌∙◌, refl, subst, ◌⊎◌, inl, inr, ◌≢◌}
use Rattle.std.proofs.lemmas.Bool.{cases_eq}
use Rattle.std.specs.Str.{bytes_eq}
use Rattle.diff_keys.specs.NthLaws.{bytes_eq-refl, same_bytes}
use Rattle.diff_keys.specs.Partners.{Keys, key_at}
use Rattle.diff_keys.specs.Unique.{IsFirstTwice, NoneTwice}

-- the row of the key q among the first n rows, or that there is none
abbrev pub IsSeen : Keys → ℕ → List ℕ → Option ℕ → Type 0
IsSeen keys n q None = (i : ℕ) → i < n → ¬ (key_at keys i ≡ q)
IsSeen keys n q (Some i) = (i < n) × (key_at keys i ≡ q)

-- the first n rows are seen, and no two of them have one key
pub record AreSeen (keys : Keys) (n : ℕ) (seen : List ℕ → Option ℕ) : Type 0 where
  pub told : (q : List ℕ) → IsSeen keys n q (seen q)
  pub none_twice : NoneTwice keys n

pub none_seen : (keys : Keys) (seen : List ℕ → Option ℕ) → ((q : List ℕ) → seen q ≡ None) → AreSeen keys 0 seen
none_seen keys seen none = record {
  told = λ q. subst (IsSeen keys 0 q) (sym (none q)) (λ i low e. omega (arith, low));
  none_twice = λ i j rising low e. omega (arith, low);
}

-- one row more, whose key is new
pub one_seen : (keys : Keys) (n m : ℕ) (seen seen' : List ℕ → Option ℕ) → AreSeen keys n seen → seen (key_at keys n) ≡ None → m ≡ suc n
    → ((q : List ℕ) → seen' q ≡ (if bytes_eq (key_at keys n) q then Some n else seen q)) → AreSeen keys m seen'
one_seen keys n m seen seen' old new next updated = rw next (record {
  told = λ q. subst (IsSeen keys (suc n) q) (sym (updated q)) (told q (bytes_eq (key_at keys n) q) refl (seen q) (old.told q));
  none_twice = λ i j rising low. apart i j rising low (cases_eq j n);
})
  where
    fresh : (i : ℕ) → i < n → ¬ (key_at keys i ≡ key_at keys n)
    fresh = subst (IsSeen keys n (key_at keys n)) new (old.told (key_at keys n))

    told : (q : List ℕ) (b : Bool) → bytes_eq (key_at keys n) q ≡ b → (o : Option ℕ) → IsSeen keys n q o → IsSeen keys (suc n) q (if b then Some n else o)
    told q true e o is = (omega arith, same_bytes (key_at keys n) q e)
    told q false e None is = λ i low same. elim (cases_eq i n) [
      | inl here ↦
          let equal : key_at keys n ≡ q = ap (key_at keys) (sym here) ∙ same in
          let clash : false ≡ true = sym e ∙ (ap (bytes_eq (key_at keys n)) (sym equal) ∙ bytes_eq-refl (key_at keys n)) in
          cc
      | inr apart ↦ is i (omega (arith, low, apart)) same
    ]
    told q false e (Some i) is = let low : i < n = is.0 in (omega (arith, low), is.1)

    apart : (i j : ℕ) → i < j → j < suc n → (j ≡ n) ⊎ (j ≢ n) → ¬ (key_at keys i ≡ key_at keys j)
    apart i j rising low (inl here) same = fresh i (omega (arith, rising, here)) (same ∙ ap (key_at keys) here)
    apart i j rising low (inr other) same = old.none_twice i j rising (omega (arith, low, other)) same

-- the row whose key was seen, and the row that was seen
pub twice_seen : (keys : Keys) (n first : ℕ) (seen : List ℕ → Option ℕ) → AreSeen keys n seen → n < length keys → seen (key_at keys n) ≡ Some first
    → IsFirstTwice keys (record { first = first; again = n })
twice_seen keys n first seen h within found =
    let there : (first < n) × (key_at keys first ≡ key_at keys n) = subst (IsSeen keys n (key_at keys n)) found (h.told (key_at keys n)) in
    record { in_order = there.0; within = within; one_key = there.1; none_before = h.none_twice }
