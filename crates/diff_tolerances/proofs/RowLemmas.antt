-- Rows beside their partners, as they are appended and as a table cuts them.
use Rattle.std.proofs.Common.{◌≡◌, ◌<◌, ◌+◌, ◌*◌, ◌∙◌, ℕ, zero, suc, List, [], ◌∷◌, ◌++◌, Option, Some, None, length, get_or, map, take, drop, refl, ap, sym, arith, length-append, subst}
use Rattle.std.proofs.Math.Seq.{take-append_seam, drop-append_seam}
use Rattle.std.proofs.lemmas.List.{flat_map_more}
use Rattle.std.proofs.lemmas.List.FromFn.{length-map-range_with_len}
use Rattle.std.specs.List.{flat_map, range_with_len}
use Rattle.std.specs.Prelude.{IfSome}
use Rattle.diff_columns.specs.Names.{Names}
use Rattle.diff_keys.specs.Partners.{Keys}
use Rattle.diff_tables.specs.Tables.{cut_rows}
use Rattle.diff_tolerances.specs.Rows.{cell_at, row_at, row_beside}
use Rattle.diff_tolerances.specs.declared.cells.Tolerance.{Tolerance}
use Rattle.diff_tolerances.specs.Partners.{ArePartnersOf, IsPartnerOf}

-- how many cells rows of one width have
pub all_cells : (f : ℕ → List (List ℕ)) (w : ℕ) → ((j : ℕ) → length (f j) ≡ w) → (js : List ℕ) → length (flat_map f js) ≡ w * length js
all_cells f w size [] = omega arith
all_cells f w size (j ∷ js) =
    let rest : length (flat_map f js) ≡ w * length js = all_cells f w size js in
    let here : length (f j) ≡ w = size j in
    let place : w + w * length js ≡ w * suc (length js) = omega arith in
    length-append (f j) (flat_map f js) ∙ (ap (λ n. n + length (flat_map f js)) here ∙ (ap (λ n. w + n) rest ∙ place))

-- rows of one width are cut off their cells
pub cut_kept : (f : ℕ → List (List ℕ)) (w : ℕ) → ((j : ℕ) → length (f j) ≡ w) → (js : List ℕ) → cut_rows w (length js) (flat_map f js) ≡ map f js
unfolding cut_rows
cut_kept f w size [] = refl
cut_kept f w size (j ∷ js) =
    let row : take w (f j ++ flat_map f js) ≡ f j = subst (λ n. take n (f j ++ flat_map f js) ≡ f j) (size j) (take-append_seam (f j) (flat_map f js)) in
    let others : drop w (f j ++ flat_map f js) ≡ flat_map f js = subst (λ n. drop n (f j ++ flat_map f js) ≡ flat_map f js) (size j) (drop-append_seam (f j) (flat_map f js)) in
    ap (λ x. x ∷ cut_rows w (length js) (drop w (f j ++ flat_map f js))) row
    ∙ (ap (λ l. f j ∷ cut_rows w (length js) l) others ∙ ap (λ l. f j ∷ l) (cut_kept f w size js))

range_more : (a n : ℕ) → range_with_len a (suc n) ≡ range_with_len a n ++ (a + n) ∷ []
range_more a zero = ap (λ x. x ∷ []) (omega arith)
range_more a (suc n) = ap (λ l. a ∷ l) (range_more (a + 1) n ∙ ap (λ x. range_with_len (a + 1) n ++ x ∷ []) (omega arith))

-- one row more
pub row_more : (f : ℕ → List (List ℕ)) (i : ℕ) → flat_map f (range_with_len 0 i) ++ f i ≡ flat_map f (range_with_len 0 (i + 1))
row_more f i =
    let on : suc i ≡ i + 1 = omega arith in
    let same : i ≡ 0 + i = omega arith in
    flat_map_more f [] (range_with_len 0 i) i ∙ ap (flat_map f) (ap (λ x. range_with_len 0 i ++ x ∷ []) same ∙ (sym (range_more 0 i) ∙ ap (range_with_len 0) on))

-- the partners of right rows are left rows
partner_within : (left right : Keys) (j : ℕ) (o : Option ℕ) → IsPartnerOf left right j o → IfSome o (λ i. i < length left)
partner_within left right j None h = tt
partner_within left right j (Some i) h = h.left_row

pub partners_within : (left right : Keys) (partners : List (Option ℕ)) → ArePartnersOf left right partners → (j : ℕ) → j < length right
    → IfSome (get_or partners j None) (λ i. i < length left)
partners_within left right partners h j inside = partner_within left right j (get_or partners j None) (h.each j inside)

-- each row has a cell for each column
pub beside_count : (tolerances : List Tolerance) (names : Names) (left : List (List (List ℕ))) (partners : List (Option ℕ)) (right : List (List (List ℕ))) (j : ℕ)
    → length (row_beside tolerances names left partners right j) ≡ length names
beside_count tolerances names left partners right j = length-map-range_with_len (cell_at tolerances names (row_at left (get_or partners j None)) (get_or right j [])) 0 (length names)
