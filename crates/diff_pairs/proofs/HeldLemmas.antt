-- The lists of an array whose items are cells.
use Rattle.std.proofs.Common.{◌≡◌, ◌<◌, ◌≤◌, ◌+◌, ◌-◌, ◌*◌, ◌↔◌, ℕ, zero, suc, List, [], ◌∷◌, length, get_or, take, drop, map, arith, ap, sym, ◌∙◌, refl, add-one}
use Rattle.std.proofs.lemmas.List.{get_or-map, length-map}
use Rattle.std.proofs.lemmas.List.FromFn.{length-map-range_with_len}
use Rattle.std.proofs.Math.Seq.{drop-cons}
use Rattle.polars_arrays_flat.specs.Row.{Row, RowList, Null, Bytes, Rows, no_rows, more_rows, row_list}
use Rattle.std.specs.Prelude.{ℤ, Bool, None, false, true, slice_index}
use Rattle.polars_arrays_bytes.specs.OffsetStrings.{OffsetStrings, offset_strings, places, row_count, string_between}
use Rattle.polars_arrays_numbers.specs.Naturals.{natural_of}
use Rattle.polars_arrays_nested.specs.AnyRows.{row, rows_from}
use Rattle.polars_arrays_nested.specs.Lengths.{len_of}
use Rattle.polars_arrays_nested.specs.declared.any_array.AnyArray.{AnyArray, Binary, LargeBinary}
use Rattle.diff_pairs.specs.Held.{HoldsCells, HoldsRows, cells_tree}
use Rattle.diff_keys.specs.Rising.{ListsRising}
use Rattle.diff_keys.specs.RisingLaws.{listed_as}
use Rattle.diff_pairs.specs.Pairs.{IsChanged, NameRows}
use Rattle.diff_pairs.specs.Rows.{HaveOtherCells, row_cells}

-- an array has as many strings as rows
pub count_strings : (a : OffsetStrings ℤ) → length (offset_strings (λ x. x) a) ≡ row_count a.offsets
count_strings a =
    let count : row_count (places (λ x. x) a.offsets) ≡ row_count a.offsets = ap (λ n. n - 1) (length-map a.offsets (λ offset. natural_of offset)) in
    length-map-range_with_len (string_between (places (λ x. x) a.offsets) a.values) 0 (row_count (places (λ x. x) a.offsets)) ∙ count

-- an array holds its strings, where all are present
pub holds_near : (a : OffsetStrings ℤ) → a.validity ≡ None → HoldsCells false (offset_strings (λ x. x) a) (Binary a)
holds_near a none = record {
  good = tt;
  kind = refl;
  len = sym (count_strings a);
  held = λ k within. rw none (get_or-map Bytes (offset_strings (λ x. x) a) k [] Null within);
}

pub holds_far : (a : OffsetStrings ℤ) → a.validity ≡ None → HoldsCells true (offset_strings (λ x. x) a) (LargeBinary a)
holds_far a none = record {
  good = tt;
  kind = refl;
  len = sym (count_strings a);
  held = λ k within. rw none (get_or-map Bytes (offset_strings (λ x. x) a) k [] Null within);
}

-- the items of a list, where each is a cell
pub cells_from : (f : ℕ → Row) (all : List (List ℕ)) (a n : ℕ) → ((k : ℕ) → k < length all → f k ≡ Bytes (get_or all k [])) → a + n ≤ length all
    → rows_from f a n ≡ row_list (map Bytes (take n (drop a all)))
cells_from f all a zero h within = refl
cells_from f all a (suc n) h within =
    let first : f a ≡ Bytes (get_or all a []) = h a (omega (arith, within)) in
    let rest : rows_from f (a + 1) n ≡ row_list (map Bytes (take n (drop (a + 1) all))) = cells_from f all (a + 1) n h (omega (arith, within)) in
    let head : drop a all ≡ get_or all a [] ∷ drop (suc a) all = drop-cons all a [] (omega (arith, within)) in
    rw (head, first, rest, add-one) refl

-- the cells of row i lie among all cells
pub row_within : (w n i : ℕ) → i < n → w * i + w ≤ w * n
row_within w zero i h = absurd (omega (arith, h))
row_within w (suc n) zero h = omega arith
row_within w (suc n) (suc i) h = let rest : w * i + w ≤ w * n = row_within w n i (omega (arith, h)) in omega (arith, rest)

-- list i of the array has the cells of row i
pub list_is : (f : ℕ → Row) (w n i : ℕ) (all : List (List ℕ)) → ((k : ℕ) → k < length all → f k ≡ Bytes (get_or all k [])) → length all ≡ w * n → i < n
    → Rows (rows_from f (w * i) w) ≡ cells_tree (row_cells w all i)
list_is f w n i all h size within = ap Rows (cells_from f all (w * i) w h (let inside : w * i + w ≤ w * n = row_within w n i within in omega (arith, inside, size)))

-- two rows that are the same tree have the same cells
abbrev cell_back : Row → List ℕ
cell_back (Bytes bs) = bs
cell_back _ = []

abbrev cells_back : RowList → List (List ℕ)
cells_back no_rows = []
cells_back (more_rows r rs) = cell_back r ∷ cells_back rs

abbrev tree_back : Row → List (List ℕ)
tree_back (Rows rs) = cells_back rs
tree_back _ = []

back : (cells : List (List ℕ)) → cells_back (row_list (map Bytes cells)) ≡ cells
back [] = refl
back (c ∷ cs) = ap (λ rest. c ∷ rest) (back cs)

pub same_cells : (xs ys : List (List ℕ)) → cells_tree xs ≡ cells_tree ys → xs ≡ ys
same_cells xs ys e = sym (back xs) ∙ (ap tree_back e ∙ back ys)

-- numbers of rows are numbers of rows of the array
pub named : {far : Bool} {w n : ℕ} {strings : List (List ℕ)} (a : AnyArray) (rows : List ℕ) → HoldsRows far w n strings a → NameRows n rows → NameRows (len_of a) rows
named {n = n} a rows h within = λ p inside. let below : slice_index rows p < n = within p inside in omega (arith, below, h.len)

-- pairs of different trees are pairs of rows with other cells
pub rows_differ : {far : Bool} {w n m : ℕ} (l r : List (List ℕ)) (left right : AnyArray) (ls rs changed : List ℕ) → HoldsRows far w n l left → HoldsRows far w m r right
    → length ls ≡ length rs → NameRows n ls → NameRows m rs → ListsRising (IsChanged left right ls rs) (length ls) changed → ListsRising (HaveOtherCells w l r ls rs) (length ls) changed
rows_differ {w = w} l r left right ls rs changed from_left from_right one_length left_within right_within h =
    listed_as (IsChanged left right ls rs) (HaveOtherCells w l r ls rs) (length ls) changed same h
  where
    same : (p : ℕ) → p < length ls → IsChanged left right ls rs p ↔ HaveOtherCells w l r ls rs p
    same p within =
        let l_at : row left (slice_index ls p) ≡ cells_tree (row_cells w l (slice_index ls p)) = from_left.held (slice_index ls p) (left_within p within) in
        let r_at : row right (slice_index rs p) ≡ cells_tree (row_cells w r (slice_index rs p)) = from_right.held (slice_index rs p) (right_within p (omega (arith, within, one_length))) in (
          λ differ equal. differ (l_at ∙ (ap cells_tree equal ∙ sym r_at)),
          λ differ equal. differ (same_cells _ _ (sym l_at ∙ (equal ∙ r_at))),
        )
