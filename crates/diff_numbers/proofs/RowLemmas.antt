-- Rows of what cells are compared by, as they are appended and as a table cuts them.
use Rattle.std.proofs.Common.{◌≡◌, ◌<◌, ◌+◌, ◌*◌, ◌∙◌, ℕ, Bool, suc, List, [], ◌∷◌, ◌++◌, ◌||◌, length, get_or, map, take, drop, refl, ap, sym, arith, length-append, append_assoc, subst}
use Rattle.std.proofs.Math.Seq.{take-append_seam, drop-append_seam}
use Rattle.std.proofs.lemmas.List.{flat_map_more, take_more}
use Rattle.std.proofs.lemmas.List.FromFn.{length-map-range_with_len, map-range_with_len_more}
use Rattle.std.specs.List.{flat_map, list_any, range_with_len}
use Rattle.std.specs.Borrow.{Bor}
use Rattle.std.specs.Str.{bytes_eq}
use Rattle.diff_columns.specs.Names.{names_of}
use Rattle.diff_numbers.specs.Columns.{is_named}
use Rattle.diff_numbers.specs.Rows.{comparable_at, comparable_row}
use Rattle.diff_tables.specs.Tables.{cut_rows}

-- each row has a cell for each column
pub cells_count : (numeric : List Bool) (cells : List (List ℕ)) → length (comparable_row numeric cells) ≡ length numeric
cells_count numeric cells = length-map-range_with_len (comparable_at numeric cells) 0 (length numeric)

-- how many cells rows of one width have
pub all_cells : (f : List (List ℕ) → List (List ℕ)) (w : ℕ) → ((r : List (List ℕ)) → length (f r) ≡ w) → (rows : List (List (List ℕ)))
    → length (flat_map f rows) ≡ w * length rows
all_cells f w size [] = omega arith
all_cells f w size (r ∷ rs) =
    let rest : length (flat_map f rs) ≡ w * length rs = all_cells f w size rs in
    let here : length (f r) ≡ w = size r in
    let place : w + w * length rs ≡ w * suc (length rs) = omega arith in
    length-append (f r) (flat_map f rs) ∙ (ap (λ n. n + length (flat_map f rs)) here ∙ (ap (λ n. w + n) rest ∙ place))

-- rows of one width are cut off their cells
pub cut_kept : (f : List (List ℕ) → List (List ℕ)) (w : ℕ) → ((r : List (List ℕ)) → length (f r) ≡ w) → (rows : List (List (List ℕ)))
    → cut_rows w (length rows) (flat_map f rows) ≡ map f rows
unfolding cut_rows
cut_kept f w size [] = refl
cut_kept f w size (r ∷ rs) =
    let row : take w (f r ++ flat_map f rs) ≡ f r = subst (λ n. take n (f r ++ flat_map f rs) ≡ f r) (size r) (take-append_seam (f r) (flat_map f rs)) in
    let others : drop w (f r ++ flat_map f rs) ≡ flat_map f rs = subst (λ n. drop n (f r ++ flat_map f rs) ≡ flat_map f rs) (size r) (drop-append_seam (f r) (flat_map f rs)) in
    ap (λ x. x ∷ cut_rows w (length rs) (drop w (f r ++ flat_map f rs))) row
    ∙ (ap (λ l. f r ∷ cut_rows w (length rs) l) others ∙ ap (λ l. f r ∷ l) (cut_kept f w size rs))

-- a name is among names that are lent
pub named_lent : (lent : List (Bor (List ℕ))) (name : List ℕ) → list_any (λ x. bytes_eq x.now name) lent ≡ is_named (names_of lent) name
named_lent [] name = refl
named_lent (x ∷ xs) name = ap (λ b. bytes_eq x.now name || b) (named_lent xs name)

-- one row more
pub row_more : (f : List (List ℕ) → List (List ℕ)) (rows : List (List (List ℕ))) (i : ℕ) → i < length rows
    → flat_map f (take i rows) ++ f (get_or rows i []) ≡ flat_map f (take (i + 1) rows)
row_more f rows i within = flat_map_more f [] (take i rows) (get_or rows i []) ∙ ap (flat_map f) (sym (take_more rows i [] within))

-- one column more
pub column_more : (f : ℕ → List ℕ) (all : List (List ℕ)) (i : ℕ) → (all ++ map f (range_with_len 0 i)) ++ f i ∷ [] ≡ all ++ map f (range_with_len 0 (i + 1))
column_more f all i = append_assoc all (map f (range_with_len 0 i)) (f i ∷ []) ∙ ap (λ l. all ++ l) (sym (map-range_with_len_more f 0 i i (omega arith)))
