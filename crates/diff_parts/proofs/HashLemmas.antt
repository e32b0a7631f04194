-- The hash of a key, cell by cell.
use Rattle.std.proofs.Common.{◌≡◌, ◌∙◌, ◌<◌, ◌+◌, ℕ, List, [], ◌∷◌, ◌++◌, get_or, length, take, fold, ap, sym, refl, append_assoc}
use Rattle.std.proofs.lemmas.List.Sums.{fold-append}
use Rattle.diff_keys.specs.Hashes.{hash_step}
use Rattle.diff_tables.specs.Keys.{escaped, marked, row_key}
use Rattle.diff_tables.proofs.KeyLemmas.{key_more, part, part_all, part_more}

-- one byte more
pub byte_more : (hash : ℕ) (s : List ℕ) (i j : ℕ) → i < length s → j ≡ i + 1 → fold hash_step (fold hash_step hash (part (take i s))) (marked (get_or s i 0)) ≡ fold hash_step hash (part (take j s))
byte_more hash s i j within next =
    sym (fold-append hash_step hash (part (take i s)) (marked (get_or s i 0))) ∙ ap (fold hash_step hash) (part_more [] s i j within next)

-- the end of a cell
pub cell_end : (hash : ℕ) (s : List ℕ) → hash_step (hash_step (fold hash_step hash (part s)) 0) 0 ≡ fold hash_step hash (escaped s)
cell_end hash s =
    sym (fold-append hash_step hash (part s) (0 ∷ 0 ∷ [])) ∙ ap (fold hash_step hash) (sym (append_assoc (part s) (0 ∷ []) (0 ∷ [])) ∙ part_all [] s)

-- one cell more
pub cell_more : (start hash after : ℕ) (cs : List ℕ) (row : List (List ℕ)) (cell : List ℕ) (i : ℕ) → i < length cs
    → hash ≡ fold hash_step start (row_key (take i cs) row) → cell ≡ get_or row (get_or cs i 0) [] → after ≡ fold hash_step hash (escaped cell)
    → after ≡ fold hash_step start (row_key (take (i + 1) cs) row)
cell_more start hash after cs row cell i within before is step =
    let own : after ≡ fold hash_step (fold hash_step start (row_key (take i cs) row)) (escaped (get_or row (get_or cs i 0) [])) = rw (← before, ← is) step in
    let joined : fold hash_step (fold hash_step start (row_key (take i cs) row)) (escaped (get_or row (get_or cs i 0) [])) ≡ fold hash_step start (row_key (take i cs) row ++ escaped (get_or row (get_or cs i 0) [])) =
    sym (fold-append hash_step start (row_key (take i cs) row) (escaped (get_or row (get_or cs i 0) []))) in
    own ∙ (joined ∙ ap (fold hash_step start) (key_more cs row i (i + 1) within refl))
