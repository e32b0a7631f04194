-- Laws: two rows have one key exactly where they have the same cells in the key columns.
use Rattle.std.proofs.Common.{◌≡◌, ◌↔◌, ℕ, zero, suc, List, [], ◌∷◌, ◌++◌, get_or, ap, ◌∙◌, refl}
use Rattle.diff_tables.specs.Keys.{escaped, row_key, cells_at}

-- the end of a string shows: the bytes that follow it can't be taken for a part of it
pub escaped_splits : (xs ys r s : List ℕ) → escaped xs ++ r ≡ escaped ys ++ s → (xs ≡ ys) × (r ≡ s)
unfolding escaped
escaped_splits [] [] r s e = (refl, cc)
escaped_splits [] (zero ∷ ys) r s e = absurd (cc)
escaped_splits [] (suc y ∷ ys) r s e = absurd (cc)
escaped_splits (zero ∷ xs) [] r s e = absurd (cc)
escaped_splits (suc x ∷ xs) [] r s e = absurd (cc)
escaped_splits (zero ∷ xs) (zero ∷ ys) r s e =
    let rest : (xs ≡ ys)
    × (r ≡ s) = escaped_splits xs ys r s (cc) in (ap (λ l. 0 ∷ l) rest.0, rest.1)
escaped_splits (zero ∷ xs) (suc y ∷ ys) r s e = absurd (cc)
escaped_splits (suc x ∷ xs) (zero ∷ ys) r s e = absurd (cc)
escaped_splits (suc x ∷ xs) (suc y ∷ ys) r s e =
    let rest : (xs ≡ ys) × (r ≡ s) = escaped_splits xs ys r s (cc) in
    let head : suc x ≡ suc y = cc in
    (ap (λ l. suc x ∷ l) rest.0 ∙ ap (λ h. h ∷ ys) head, rest.1)

same_cells : (columns : List ℕ) (r s : List (List ℕ)) → row_key columns r ≡ row_key columns s
    → cells_at columns r ≡ cells_at columns s
unfolding row_key
same_cells [] r s e = refl
same_cells (c ∷ cs) r s e =
    let both : (get_or r c [] ≡ get_or s c [])
    × (row_key cs r ≡ row_key cs s) =
    escaped_splits (get_or r c []) (get_or s c []) (row_key cs r) (row_key cs s) e in
    ap (λ x. x ∷ cells_at cs r) both.0 ∙ ap (λ l. get_or s c [] ∷ l) (same_cells cs r s both.1)

same_key : (columns : List ℕ) (r s : List (List ℕ)) → cells_at columns r ≡ cells_at columns s
    → row_key columns r ≡ row_key columns s
unfolding row_key
same_key [] r s e = refl
same_key (c ∷ cs) r s e =
    let first : get_or r c [] ≡ get_or s c [] = cc in
    let rest : cells_at cs r ≡ cells_at cs s = cc in
    ap (λ x. escaped x ++ row_key cs r) first ∙ ap
    (λ l. escaped (get_or s c []) ++ l) (same_key cs r s rest)

-- two rows have one key exactly where they have the same cells in the key columns
pub key_tells : (columns : List ℕ) (r s : List (List ℕ)) → (row_key columns r ≡ row_key columns s)
    ↔ (cells_at columns r ≡ cells_at columns s)
key_tells columns r s = (same_cells columns r s, same_key columns r s)
