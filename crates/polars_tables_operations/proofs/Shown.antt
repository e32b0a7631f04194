-- Bits and validities, as the rows of a comparison's result.
use Rattle.std.proofs.Common.{◌≡◌, ◌<◌, ◌∙◌, ◌&&◌, not, ℕ, zero, suc, Bool, true, false, cond, List, [], ◌∷◌, Option, Some, None, length, map, replicate, refl, sym, ap, arith, slice_index_or}
use Rattle.std.specs.Simd.Lanes.{zip2}
use Rattle.std.proofs.lemmas.List.{ext_get_or, length-map}
use Rattle.std.proofs.lemmas.Simd.{length-zip2, get_or-zip2}
use Rattle.polars_arrays_flat.specs.ArrayRows.{is_null}
use Rattle.polars_arrays_flat.specs.Row.{Row, Null, Truth}
use Rattle.polars_arrays_flat.specs.StoredRows.{row, kept, rows_under, truth_slots}
use Rattle.polars_arrays_flat.specs.Validity.{HasBits, is_present}
use Rattle.polars_compare_leaves.specs.Sameness.{same_row, other_row}
use Rattle.polars_compare_leaves.specs.Order.{row_less, row_at_most, row_greater, row_at_least}
use Rattle.polars_compute_arithmetic.specs.Maps.{joined_validity}
use Rattle.polars_tables_rows.specs.RowsLaws.{length-rows, row-at, map-at}
use Rattle.polars_tables_operations.specs.declared.operation.ComparisonKind.{ComparisonKind}
use Rattle.polars_tables_operations.specs.declared.operation.ComparisonKind.TheVariants.{Equal, Unequal, Less, LessOrEqual, Greater, GreaterOrEqual, EqualMissing, UnequalMissing}
use Rattle.polars_tables_operations.specs.Comparing.{if_present, compared, compared_rows, ComparesRows, is_missing, answer_validity}
use Rattle.polars_tables_operations.specs.Stored.{AreValues, StoresValues}
use Rattle.polars_tables_operations.proofs.Comparisons.{scalar_setting}

-- ---- validities

joined-at : (lm rm : Option (List Bool)) (n i : ℕ) → HasBits n lm → HasBits n rm → i < n → is_present (joined_validity lm rm) i ≡ (is_present lm i && is_present rm i)
joined-at None rm n i l r h = refl
joined-at (Some left) None n i l r h = and_true (slice_index_or left i false) where
  and_true : (b : Bool) → b ≡ (b && true)
  and_true true = refl
  and_true false = refl
joined-at (Some left) (Some right) n i l r h = get_or-zip2 ◌&&◌ left right i false false false (omega (arith, l, h)) (omega (arith, r, h))

joined-bits : (lm rm : Option (List Bool)) (n : ℕ) → HasBits n lm → HasBits n rm → HasBits n (joined_validity lm rm)
joined-bits None rm n l r = r
joined-bits (Some left) None n l r = l
joined-bits (Some left) (Some right) n l r = length-zip2 ◌&&◌ left right (l ∙ sym r) ∙ l

pub answer-bits : (comparison : ComparisonKind) (lm rm : Option (List Bool)) (n : ℕ) → HasBits n lm → HasBits n rm → HasBits n (answer_validity comparison lm rm)
answer-bits comparison lm rm n l r = by_test (is_missing comparison) where
  by_test : (b : Bool) → HasBits n (cond b None (joined_validity lm rm))
  by_test true = tt
  by_test false = joined-bits lm rm n l r

-- ---- one row

-- a bit is the result if the two rows are null exactly where they are masked
raw_answer : (test : Row → Row → Bool) (p q bit : Bool) (x y : Row) → is_null x ≡ not p → is_null y ≡ not q
    → ((truth : Bool) → if_present test x y ≡ Truth truth → bit ≡ truth) → kept (p && q) (Truth bit) ≡ if_present test x y
raw_answer test true true bit x y e f right = rw (e, f) (ap Truth (right (test x y) (rw (e, f) refl)))
raw_answer test false q bit x y e f right = rw e refl
raw_answer test true false bit x y e f right = rw (e, f) refl

shown : (comparison : ComparisonKind) (lm rm : Option (List Bool)) (n i : ℕ) (bits : List Bool) (x y : Row) → HasBits n lm → HasBits n rm → i < n → is_null x ≡ not (is_present lm i) → is_null y ≡ not (is_present rm i)
    → ((truth : Bool) → compared comparison x y ≡ Truth truth → slice_index_or bits i false ≡ truth)
    → kept (is_present (answer_validity comparison lm rm) i) (Truth (slice_index_or bits i false)) ≡ compared comparison x y
shown Equal lm rm n i bits x y l r h e f right = ap (λ (b : Bool). kept b (Truth (slice_index_or bits i false))) (joined-at lm rm n i l r h) ∙ raw_answer same_row (is_present lm i) (is_present rm i) (slice_index_or bits i false) x y e f right
shown Unequal lm rm n i bits x y l r h e f right = ap (λ (b : Bool). kept b (Truth (slice_index_or bits i false))) (joined-at lm rm n i l r h) ∙ raw_answer other_row (is_present lm i) (is_present rm i) (slice_index_or bits i false) x y e f right
shown Less lm rm n i bits x y l r h e f right = ap (λ (b : Bool). kept b (Truth (slice_index_or bits i false))) (joined-at lm rm n i l r h) ∙ raw_answer row_less (is_present lm i) (is_present rm i) (slice_index_or bits i false) x y e f right
shown LessOrEqual lm rm n i bits x y l r h e f right = ap (λ (b : Bool). kept b (Truth (slice_index_or bits i false))) (joined-at lm rm n i l r h) ∙ raw_answer row_at_most (is_present lm i) (is_present rm i) (slice_index_or bits i false) x y e f right
shown Greater lm rm n i bits x y l r h e f right = ap (λ (b : Bool). kept b (Truth (slice_index_or bits i false))) (joined-at lm rm n i l r h) ∙ raw_answer row_greater (is_present lm i) (is_present rm i) (slice_index_or bits i false) x y e f right
shown GreaterOrEqual lm rm n i bits x y l r h e f right = ap (λ (b : Bool). kept b (Truth (slice_index_or bits i false))) (joined-at lm rm n i l r h) ∙ raw_answer row_at_least (is_present lm i) (is_present rm i) (slice_index_or bits i false) x y e f right
shown EqualMissing lm rm n i bits x y l r h e f right = ap Truth (right (same_row x y) refl)
shown UnequalMissing lm rm n i bits x y l r h e f right = ap Truth (right (other_row x y) refl)

length-zip : {A B C : Type 0} (f : A → B → C) (xs : List A) (ys : List B) → length ys ≡ length xs → length (zip2 f xs ys) ≡ length xs
length-zip f xs ys e = length-zip2 f xs ys (sym e)

-- ---- all rows

module _ {A : Type 0} (value_row : A → Row) (values : AreValues value_row) where
  null_where : (p : Bool) (x : A) → is_null (kept p (value_row x)) ≡ not p
  null_where true x = values.present x
  null_where false x = refl

  -- a row is null just where it is masked
  null-at : (m : Option (List Bool)) (slots : List Row) (i : ℕ) → HasBits (length slots) m → StoresValues value_row slots → i < length slots → is_null (row (rows_under m slots) i) ≡ not (is_present m i)
  null-at m slots i b v h =
      let x = v.at_each i h in
      ap is_null (row-at m slots i b h ∙ ap (λ (r : Row). kept (is_present m i) r) x.1) ∙ null_where (is_present m i) x.0

  pub answers-are : (comparison : ComparisonKind) (lm rm : Option (List Bool)) (ls rs : List Row) (bits : List Bool) → HasBits (length ls) lm → HasBits (length rs) rm → StoresValues value_row ls → StoresValues value_row rs → length rs ≡ length ls
      → ComparesRows comparison (rows_under lm ls) (rows_under rm rs) bits
      → rows_under (answer_validity comparison lm rm) (truth_slots bits) ≡ compared_rows comparison (rows_under lm ls) (rows_under rm rs)
  answers-are comparison lm rm ls rs bits lb rb lv rv long c =
      let left = rows_under lm ls in
      let right = rows_under rm rs in
      let v = answer_validity comparison lm rm in
      let ll : length left ≡ length ls = length-rows lm ls lb in
      let lr : length right ≡ length left = length-rows rm rs rb ∙ long ∙ sym ll in
      let slots : length (truth_slots bits) ≡ length ls = length-map bits Truth ∙ c.size ∙ ll in
      let rb' : HasBits (length ls) rm = rw (sym long) rb in
      let vb : HasBits (length (truth_slots bits)) v = rw slots (answer-bits comparison lm rm (length ls) lb rb') in
      let lt : length (rows_under v (truth_slots bits)) ≡ length ls = length-rows v (truth_slots bits) vb ∙ slots in
      ext_get_or Null (rows_under v (truth_slots bits)) (compared_rows comparison left right)
      (lt ∙ sym ll ∙ sym (length-zip (compared comparison) left right lr))
      (λ i h.
      let below : i < length ls = omega (arith, lt) in
      let in_bits : i < length bits = omega (arith, c.size, ll) in
      let in_left : i < length left = omega (arith, ll) in
      row-at v (truth_slots bits) i vb (omega (arith, slots))
      ∙ ap (λ (r : Row). kept (is_present v i) r) (map-at Truth bits i false Null in_bits)
      ∙ shown comparison lm rm (length ls) i bits (row left i) (row right i) lb rb' below (null-at lm ls i lb lv below) (null-at rm rs i rb rv (omega (arith, long))) (λ truth e. c.at_truth i truth in_left e)
      ∙ sym (get_or-zip2 (compared comparison) left right i Null Null Null in_left (omega (arith, lr))))

-- no validity masks a scalar
pub scalar_answers-are : {A : Type 0} (value_row : A → Row) → AreValues value_row → (comparison : ComparisonKind) (lm : Option (List Bool)) (ls : List Row) (x : A) (bits : List Bool) → HasBits (length ls) lm → StoresValues value_row ls
    → ComparesRows comparison (rows_under lm ls) (replicate (length ls) (value_row x)) bits
    → rows_under (answer_validity comparison lm None) (truth_slots bits) ≡ compared_rows comparison (rows_under lm ls) (replicate (length (rows_under lm ls)) (value_row x))
scalar_answers-are value_row values comparison lm ls x bits lb lv c =
    let given = scalar_setting value_row lm ls x values lb lv in
    answers-are value_row values comparison lm None ls (replicate (length ls) (value_row x)) bits lb tt lv given.right_stored given.as_long c
    ∙ ap (λ (n : ℕ). compared_rows comparison (rows_under lm ls) (replicate n (value_row x))) (sym (length-rows lm ls lb))
