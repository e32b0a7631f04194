-- Rows that are cut off a list of cells.
use Rattle.std.proofs.Common.{◌≡◌, ◌<◌, ◌+◌, ◌*◌, ℕ, zero, suc, List, [], length, get_or, take, drop, arith, ap, sym, ◌∙◌, refl}
use Rattle.std.proofs.lemmas.List.{get_or-drop, get_or-take, drop-drop}
use Rattle.diff_tables.specs.Tables.{cut_rows}

pub length_cut : (w n : ℕ) (cells : List (List ℕ)) → length (cut_rows w n cells) ≡ n
unfolding cut_rows
length_cut w zero cells = refl
length_cut w (suc n) cells = ap suc (length_cut w n (drop w cells))

-- row i has the w cells from cell w * i on
pub row_cut : (w n i : ℕ) (cells : List (List ℕ)) → i < n → get_or (cut_rows w n cells) i [] ≡ take w (drop (w * i) cells)
unfolding cut_rows
row_cut w zero i cells h = absurd (omega (arith, h))
row_cut w (suc n) zero cells h = let none : 0 ≡ w * 0 = omega arith in ap (λ k. take w (drop k cells)) none
row_cut w (suc n) (suc i) cells h =
    let rest : get_or (cut_rows w n (drop w cells)) i [] ≡ take w (drop (w * i) (drop w cells)) = row_cut w n i (drop w cells) (omega (arith, h)) in
    let place : w + w * i ≡ w * suc i = omega arith in
    rest ∙ (ap (take w) (drop-drop (w * i) w cells) ∙ ap (λ k. take w (drop k cells)) place)

-- the cell in column c of row i
pub cell_cut : (w n i c : ℕ) (cells : List (List ℕ)) → i < n → c < w → get_or cells (w * i + c) [] ≡ get_or (get_or (cut_rows w n cells) i []) c []
cell_cut w n i c cells row column =
    sym (get_or-drop (w * i) cells c []) ∙ (sym (get_or-take w (drop (w * i) cells) c [] column) ∙ ap (λ l. get_or l c []) (sym (row_cut w n i cells row)))

-- each cell is one of them
pub cell_within : (w n i c : ℕ) → i < n → c < w → w * i + c < w * n
cell_within w zero i c h k = absurd (omega (arith, h))
cell_within w (suc n) zero c h k = omega (arith, k)
cell_within w (suc n) (suc i) c h k = let rest : w * i + c < w * n = cell_within w n i c (omega (arith, h)) k in omega (arith, rest)

-- the place of a cell is one of the cells
pub place_within : (w n i c : ℕ) (cells : List (List ℕ)) → length cells ≡ w * n → i < length (cut_rows w n cells) → c < w → w * i + c < length cells
place_within w n i c cells size row column =
    let below : i < n = omega (arith, row, length_cut w n cells) in
    let place : w * i + c < w * n = cell_within w n i c below column in
    omega (arith, place, size)
