-- The loops that write keys, one step on.
use Rattle.std.proofs.Common.{◌≡◌, ◌<◌, ◌+◌, ℕ, zero, suc, List, [], ◌∷◌, ◌++◌, length, get_or, take, arith, ap, refl}
use Rattle.std.proofs.lemmas.Grind.{common_steps}
use Rattle.std.proofs.lemmas.List.{take_more, append_assoc, append-nil}
use Rattle.std.specs.List.{list_any}
use Rattle.std.specs.Prelude.{false, nat_eq}
use Rattle.diff_tables.specs.Keys.{marked, escaped, row_key}

-- the bytes of a string, each marked, without its end
abbrev pub part : List ℕ → List ℕ
part [] = []
part (x ∷ xs) = marked x ++ part xs

escaped_is : (xs : List ℕ) → escaped xs ≡ part xs ++ 0 ∷ 0 ∷ []
unfolding escaped
escaped_is [] = refl
escaped_is (zero ∷ xs) = ap (λ l. 0 ∷ 1 ∷ l) (escaped_is xs)
escaped_is (suc x ∷ xs) = ap (λ l. suc x ∷ l) (escaped_is xs)

part_append : (xs ys : List ℕ) → part (xs ++ ys) ≡ part xs ++ part ys
part_append [] ys = refl
part_append (zero ∷ xs) ys = ap (λ l. 0 ∷ 1 ∷ l) (part_append xs ys)
part_append (suc x ∷ xs) ys = ap (λ l. suc x ∷ l) (part_append xs ys)

-- one byte more
pub part_more : (old s : List ℕ) (i j : ℕ) → i < length s → j ≡ i + 1 → (old ++ part (take i s)) ++ marked (get_or s i 0) ≡ old ++ part (take j s)
part_more old s i j within next =
    let more : take (i + 1) s ≡ take i s ++ get_or s i 0 ∷ [] = take_more s i 0 within in
    rw (next, more, part_append, append-nil, append_assoc) refl

-- the end of the string
pub part_all : (old s : List ℕ) → ((old ++ part s) ++ 0 ∷ []) ++ 0 ∷ [] ≡ old ++ escaped s
part_all old s = rw (escaped_is s, append_assoc, append_assoc) refl

-- a string without a zero stays as it is
pub escaped_plain : (xs : List ℕ) → list_any (λ y. nat_eq y 0) xs ≡ false → escaped xs ≡ xs ++ 0 ∷ 0 ∷ []
unfolding escaped
escaped_plain [] none = refl
escaped_plain (zero ∷ xs) none = absurd (cc)
escaped_plain (suc x ∷ xs) none = let rest : list_any (λ y. nat_eq y 0) xs ≡ false = grind (arith, common_steps, none) in ap (λ l. suc x ∷ l) (escaped_plain xs rest)

key_append : (cs ds : List ℕ) (row : List (List ℕ)) → row_key (cs ++ ds) row ≡ row_key cs row ++ row_key ds row
unfolding row_key
key_append [] ds row = refl
key_append (c ∷ cs) ds row = rw (key_append cs ds row, append_assoc) refl

-- one column more
pub key_more : (cs : List ℕ) (row : List (List ℕ)) (i j : ℕ) → i < length cs → j ≡ i + 1
    → row_key (take i cs) row ++ escaped (get_or row (get_or cs i 0) []) ≡ row_key (take j cs) row
unfolding row_key
key_more cs row i j within next =
    let more : take (i + 1) cs ≡ take i cs ++ get_or cs i 0 ∷ [] = take_more cs i 0 within in
    rw (next, more, key_append, append-nil) refl
