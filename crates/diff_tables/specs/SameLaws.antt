-- Laws of two tables whose comparison has no difference. For each key they have the same rows of
-- that key, in the same order (`same_by_key`). They thus have the same rows, up to order
-- (`same_rows`). If no key of one of them comes twice, this is all that it says
-- (`same_where_keys_differ`). Without key columns they are the same (`same_by_position`).
use Rattle.std.proofs.Common.{◌≡◌, ◌<◌, ◌↔◌, ℕ, Bool, true, false, List, [], ◌∷◌, Some, length}
use Rattle.std.proofs.Common.{get_or, arith, ap, sym, ◌∙◌, refl, subst, ◌⊎◌, inl, inr, ◌≢◌}
use Rattle.std.proofs.lemmas.List.{length-map}
use Rattle.std.proofs.lemmas.List.Sorted.{IsPermutation-sym}
use Rattle.std.proofs.lemmas.Option.{slice_get-get_or, same_Some}
use Rattle.std.proofs.lemmas.Slice.Eq.{bytes_eq-Decides, slice_eq-Decides}
use Rattle.std.specs.Cmp.Lexicographic.{pointwise}
use Rattle.std.specs.List.{Contains, slice_get}
use Rattle.std.specs.List.Sorted.{IsPermutation}
use Rattle.std.specs.Prelude.{slice_index}
use Rattle.std.specs.Str.{bytes_eq}
use Rattle.diff_keys.specs.OrderLaws.{permuted_from_same, same_from_permuted}
use Rattle.diff_keys.specs.Partners.{ArePartners}
use Rattle.diff_keys.specs.Rising.{ListsRising}
use Rattle.diff_keys.specs.Same.{AreSameByKey, rows_with}
use Rattle.diff_keys.specs.SameLaws.{AllPaired, none_added, nothing_listed, none_removed}
use Rattle.diff_keys.specs.SameLaws.{paired_from_same, same_from_paired}
use Rattle.diff_keys.specs.Unique.{AllDiffer}
use Rattle.diff_tables.specs.Comparison.{IsComparison, IsDifferent}
use Rattle.diff_tables.specs.Keys.{row_key, row_keys}
use Rattle.diff_tables.specs.Same.{HasNoDifference}
use Rattle.diff_tables.specs.declared.compare.Comparison.{Comparison}

-- two rows are the same, or they differ
pub rows_cases : (r s : List (List ℕ)) → (r ≡ s) ⊎ (r ≢ s)
rows_cases r s = at (pointwise bytes_eq r s) refl
  where
    at : (b : Bool) → pointwise bytes_eq r s ≡ b → (r ≡ s) ⊎ (r ≢ s)
    at true e = inl ((slice_eq-Decides bytes_eq-Decides r s (pointwise bytes_eq r s) refl).0 e)
    at false e = inr
        (λ same. let clash : false
        ≡ true = sym e ∙ (slice_eq-Decides bytes_eq-Decides r s (pointwise bytes_eq r s) refl).1
        same in cc)

-- no pair is changed exactly where each is of the same rows
pub none_changed : (left right : List (List (List ℕ))) (left_rows right_rows changed : List ℕ)
    → ListsRising (IsDifferent left right left_rows right_rows) (length left_rows) changed
    → (changed ≡ [])
    ↔ ((k : ℕ) → k < length left_rows → get_or left (slice_index left_rows k) []
    ≡ get_or right (slice_index right_rows k) [])
none_changed left right left_rows right_rows changed h = (
  λ none k within. elim
      (rows_cases (get_or left (slice_index left_rows k) [])
      (get_or right (slice_index right_rows k) [])) [
        | inl same ↦ same
        | inr differ ↦ absurd (
            let (i, inside, _) = subst (λ l. Contains l k) none ((h.all k).1 (within, differ)) in
            omega (arith, inside)
            )
      ],
  λ same. nothing_listed changed (λ k there.
      let is : (k < length left_rows)
      × IsDifferent left right left_rows right_rows k = (h.all k).0 there in
      is.1 (same k is.0)),
)

-- within two tables, the rows at two places are the same exactly where both ways to read them agree
pub same_places : (left right : List (List (List ℕ))) (i j : ℕ) → i < length left → j < length right
    → (slice_get left i ≡ slice_get right j) ↔ (get_or left i [] ≡ get_or right j [])
same_places left right i j l r = (
  λ e. same_Some _ _ (sym (slice_get-get_or left i [] l) ∙ (e ∙ slice_get-get_or right j [] r)),
  λ e. slice_get-get_or left i [] l ∙ (ap Some e ∙ sym (slice_get-get_or right j [] r)),
)

-- a comparison has no difference exactly where each row has a partner, and partners are the same
pub same_paired : (columns : List ℕ) (left right : List (List (List ℕ))) (c : Comparison)
    → IsComparison columns left right c
    → HasNoDifference c ↔ AllPaired (row_key columns) left right
same_paired columns left right c h = (
  λ none. record {
    left_rows = λ i within. removed.0 none.removed i (omega (arith, within, l_count));
    right_rows = λ j within. added.0 none.added j (omega (arith, within, r_count));
    same = λ i j pair.
        let (k, inside, l, r) = h.matching.all_partners i j pair in
        let rows : get_or left (slice_index ls k) []
        ≡ get_or right (slice_index rs k) [] = changed.0 none.changed k inside in
        let same : get_or left i []
        ≡ get_or right j [] = ap
        (λ n. get_or left n []) (sym l) ∙ (rows ∙ ap (λ n. get_or right n []) r) in
        (same_places left right i j (omega (arith, pair.left_row, l_count))
        (omega (arith, pair.right_row, r_count))).1 same;
  },
  λ paired. record {
    changed = changed.1 (λ k inside.
        let pair = h.matching.partners k inside in
        (same_places left right (slice_index ls k) (slice_index rs k)
        (omega (arith, pair.left_row, l_count)) (omega (arith, pair.right_row, r_count))).0
        (paired.same (slice_index ls k) (slice_index rs k) pair));
    removed = removed.1 (λ i within. paired.left_rows i (omega (arith, within, l_count)));
    added = added.1 (λ j within. paired.right_rows j (omega (arith, within, r_count)));
  },
)
  where
    ls : List ℕ
    ls = c.matching.left_rows.items

    rs : List ℕ
    rs = c.matching.right_rows.items

    l_count : length (row_keys columns left) ≡ length left
    l_count = length-map left (row_key columns)

    r_count : length (row_keys columns right) ≡ length right
    r_count = length-map right (row_key columns)

    changed : (c.changed.items ≡ [])
        ↔ ((k : ℕ) → k < length c.matching.left_rows.items
        → get_or left (slice_index c.matching.left_rows.items k) []
        ≡ get_or right (slice_index c.matching.right_rows.items k) [])
    changed = none_changed left right c.matching.left_rows.items c.matching.right_rows.items
        c.changed.items h.changed

    removed : (c.matching.removed.items ≡ [])
        ↔ ((i : ℕ) → i < length (row_keys columns left) → (j : ℕ)
        × ArePartners (row_keys columns left) (row_keys columns right) i j)
    removed = none_removed (row_keys columns left) (row_keys columns right) c.matching.removed.items
        h.matching.removed

    added : (c.matching.added.items ≡ [])
        ↔ ((j : ℕ) → j < length (row_keys columns right) → (i : ℕ)
        × ArePartners (row_keys columns left) (row_keys columns right) i j)
    added = none_added (row_keys columns left) (row_keys columns right) c.matching.added.items
        h.matching.added

-- a comparison has no difference exactly where the two tables have the same rows of each key, in
-- the same order
pub same_by_key : (columns : List ℕ) (left right : List (List (List ℕ))) (c : Comparison)
    → IsComparison columns left right c
    → HasNoDifference c ↔ AreSameByKey (row_key columns) left right
same_by_key columns left right c h =
    let paired : HasNoDifference c
    ↔ AllPaired (row_key columns) left right = same_paired columns left right c h in (
      λ none. same_from_paired (row_key columns) left right (paired.0 none),
      λ same. paired.1 (paired_from_same (row_key columns) left right same),
    )

-- a comparison without a difference is of tables that have the same rows, up to order
pub same_rows : (columns : List ℕ) (left right : List (List (List ℕ))) (c : Comparison)
    → IsComparison columns left right c
    → HasNoDifference c → IsPermutation left right
same_rows columns left right c h none =
    permuted_from_same (row_key columns) left right ((same_by_key columns left right c h).0 none)

-- where no key of one of the tables comes twice, a comparison has no difference exactly where the
-- tables have the same rows, up to order
pub same_where_keys_differ : (columns : List ℕ) (left right : List (List (List ℕ))) (c : Comparison)
    → IsComparison columns left right c
    → AllDiffer (row_keys columns left) ⊎ AllDiffer (row_keys columns right) → HasNoDifference c
    ↔ IsPermutation left right
same_where_keys_differ columns left right c h differ = (
  same_rows columns left right c h,
  λ moved. (same_by_key columns left right c h).1 (elim differ [
    | inl on_left ↦ same_from_permuted (row_key columns) left right on_left moved
    | inr on_right ↦ λ k. sym
        (same_from_permuted (row_key columns) right left on_right
        (IsPermutation-sym left right moved) k)
  ]),
)

-- without key columns all rows have the same key
pub all_with_none : (rows : List (List (List ℕ))) → rows_with (row_key []) [] rows ≡ rows
unfolding row_key
all_with_none [] = refl
all_with_none (r ∷ rows) = ap (λ l. r ∷ l) (all_with_none rows)

-- without key columns a comparison has no difference exactly where the tables are the same
pub same_by_position : (left right : List (List (List ℕ))) (c : Comparison)
    → IsComparison [] left right c → HasNoDifference c ↔ (left ≡ right)
same_by_position left right c h =
    let same : HasNoDifference c
    ↔ AreSameByKey (row_key []) left right = same_by_key [] left right c h in (
      λ none. sym (all_with_none left) ∙ (same.0 none [] ∙ all_with_none right),
      λ e. same.1 (λ k. ap (rows_with (row_key []) k) e),
    )
