-- Worked examples of the definitions.
use Rattle.std.proofs.Common.{Bool, true, false, cond, ap, arith, get_or, sym, ◌∙◌}
use Rattle.std.specs.Str.{bytes_eq}
use Rattle.std.specs.Prelude.{◌≡◌, ◌<◌, ℕ, zero, suc, [], ◌∷◌, refl, take}
use Rattle.diff_keys.specs.Partners.{Keys, ArePartners, count_of, key_at, number_of}
use Rattle.diff_keys.specs.Matching.{IsAdded, IsRemoved}
use Rattle.diff_keys.specs.NthLaws.{same_bytes}
use Rattle.diff_keys.specs.Same.{AreSameByKey, rows_with}
use Rattle.diff_keys.specs.Unique.{IsFirstTwice}

-- the keys a, b, a
abbrev left-keys : Keys
left-keys = (97 ∷ []) ∷ (98 ∷ []) ∷ (97 ∷ []) ∷ []

-- the keys a, a, a
abbrev right-keys : Keys
right-keys = (97 ∷ []) ∷ (97 ∷ []) ∷ (97 ∷ []) ∷ []

-- one row comes before left row 2 that has its key
second-of-its-key : number_of left-keys 2 ≡ 1
unfolding count_of
second-of-its-key = refl

-- the second row of a key is matched with the second
second-with-second : ArePartners left-keys right-keys 2 1
unfolding count_of
second-with-second = record { left_row = omega arith; right_row = omega arith; one_key = refl; one_number = refl }

-- keys of one byte that are the same have the same byte
one-byte : (x y : ℕ) → x ∷ [] ≡ y ∷ [] → x ≡ y
one-byte x y e = ap (λ key. get_or key 0 0) e

-- b is not among the right keys
b-is-removed : IsRemoved left-keys right-keys 1
b-is-removed zero h = absurd (let e = one-byte 98 97 h.one_key in omega (arith, e))
b-is-removed (suc zero) h = absurd (let e = one-byte 98 97 h.one_key in omega (arith, e))
b-is-removed (suc (suc zero)) h = absurd (let e = one-byte 98 97 h.one_key in omega (arith, e))
b-is-removed (suc (suc (suc j))) h = absurd (let low = h.right_row in omega (arith, low))

-- there is no third a on the left
third-is-added : IsAdded left-keys right-keys 2
unfolding count_of
third-is-added zero h = absurd (let e : 0 ≡ 2 = h.one_number in omega (arith, e))
third-is-added (suc zero) h = absurd (let e = one-byte 98 97 h.one_key in omega (arith, e))
third-is-added (suc (suc zero)) h = absurd (let e : 1 ≡ 2 = h.one_number in omega (arith, e))
third-is-added (suc (suc (suc i))) h = absurd (let low = h.left_row in omega (arith, low))

-- of the keys a, b, b, a row 2 is the first one whose key an earlier row has
second-b : IsFirstTwice ((97 ∷ []) ∷ (98 ∷ []) ∷ (98 ∷ []) ∷ (97 ∷ []) ∷ []) (record { first = 1; again = 2 })
second-b = record { in_order = omega arith; within = omega arith; one_key = refl; none_before = apart }
  where
    apart : (i j : ℕ) → i < j → j < 2 → ¬ (key_at ((97 ∷ []) ∷ (98 ∷ []) ∷ (98 ∷ []) ∷ (97 ∷ []) ∷ []) i ≡ key_at ((97 ∷ []) ∷ (98 ∷ []) ∷ (98 ∷ []) ∷ (97 ∷ []) ∷ []) j)
    apart zero zero rising low e = omega (arith, rising)
    apart zero (suc zero) rising low e = let clash = one-byte 97 98 e in omega (arith, clash)
    apart zero (suc (suc j)) rising low e = omega (arith, low)
    apart (suc i) zero rising low e = omega (arith, rising)
    apart (suc i) (suc zero) rising low e = omega (arith, rising)
    apart (suc i) (suc (suc j)) rising low e = omega (arith, low)

-- of the rows a 1, b 2, a 3 the first and the third have the key a
two-of-a : rows_with (λ row. take 1 row) (97 ∷ []) ((97 ∷ 49 ∷ []) ∷ (98 ∷ 50 ∷ []) ∷ (97 ∷ 51 ∷ []) ∷ []) ≡ (97 ∷ 49 ∷ []) ∷ (97 ∷ 51 ∷ []) ∷ []
two-of-a = refl

-- rows of different keys may come in any order
exchanged-rows : AreSameByKey (λ row. take 1 row) ((97 ∷ 49 ∷ []) ∷ (98 ∷ 50 ∷ []) ∷ []) ((98 ∷ 50 ∷ []) ∷ (97 ∷ 49 ∷ []) ∷ [])
exchanged-rows k = at (bytes_eq (97 ∷ []) k) (bytes_eq (98 ∷ []) k) refl refl
  where
    at : (a b : Bool) → bytes_eq (97 ∷ []) k ≡ a → bytes_eq (98 ∷ []) k ≡ b
        → ◌≡◌ {A = Keys} (cond a ((97 ∷ 49 ∷ []) ∷ cond b ((98 ∷ 50 ∷ []) ∷ []) []) (cond b ((98 ∷ 50 ∷ []) ∷ []) []))
        (cond b ((98 ∷ 50 ∷ []) ∷ cond a ((97 ∷ 49 ∷ []) ∷ []) []) (cond a ((97 ∷ 49 ∷ []) ∷ []) []))
    at true true ea eb = absurd (let clash = one-byte 97 98 (same_bytes (97 ∷ []) k ea ∙ sym (same_bytes (98 ∷ []) k eb)) in omega (arith, clash))
    at true false ea eb = refl
    at false true ea eb = refl
    at false false ea eb = refl

-- rows of one key may not
exchanged-in-key : ¬ (AreSameByKey (λ row. take 1 row) ((97 ∷ 49 ∷ []) ∷ (97 ∷ 51 ∷ []) ∷ []) ((97 ∷ 51 ∷ []) ∷ (97 ∷ 49 ∷ []) ∷ []))
exchanged-in-key h = let clash : (97 ∷ 49 ∷ []) ∷ (97 ∷ 51 ∷ []) ∷ [] ≡ (97 ∷ 51 ∷ []) ∷ (97 ∷ 49 ∷ []) ∷ [] = h (97 ∷ []) in
    let byte : 49 ≡ 51 = ap (λ rows. get_or (get_or rows 0 []) 1 0) clash in omega (arith, byte)
