-- Folds that grow row by row and block by block.
use Rattle.std.proofs.Common.{◌≡◌, ◌<◌, ◌≤◌, ◌+◌, ◌∙◌, ℕ, zero, suc, Bool, true, false, List, [], ◌∷◌, ◌++◌, length, take, drop, get_or, refl, sym, ap, ap₂, arith, slice_index_or}
use Rattle.std.specs.Ordering.{int_eq}
use Rattle.std.specs.Prelude.{ℤ, Option, None, Some, cond, eqb, not}
use Rattle.std.specs.List.{list_all}
use Rattle.std.proofs.lemmas.List.{take_all, take_more, length-drop, length-map, length-take-le, get_or-map, take-map, drop-map}
use Rattle.std.proofs.lemmas.Bool.{eqb-true}
use Rattle.std.proofs.lemmas.Bool.Decides.{nat_tests}
use Rattle.std.proofs.lemmas.Cmp.{int_eq_equiv}
use Rattle.std.proofs.lemmas.List.Recursion.{is_count_by}
use Rattle.std.proofs.lemmas.List.Sums.{count_by-le-length}
use Rattle.std.proofs.Math.Seq.{take-add}
use Rattle.polars_arrays_flat.specs.ArrayRows.{is_null, null_total}
use Rattle.polars_arrays_flat.specs.Row.{Row, Null, Int, Truth, Bytes, Rows, Fields, Entry}
use Rattle.polars_arrays_flat.specs.StoredRows.{row, kept, masked, number_slots, rows_under}
use Rattle.polars_arrays_flat.specs.Validity.{HasBits}
use Rattle.polars_compute_reductions.specs.Folds.{Folds, folded, folded_if_any, none_present, number_or, row_joined}

module _ (joined : ℤ → ℤ → ℤ) (neutral : ℤ) (law : Folds joined neutral) where
  row-groups : (row : Row) (a b : ℤ) → joined (row_joined joined row a) b ≡ row_joined joined row (joined a b)
  row-groups (Int n) a b = law.any_groups n a b
  row-groups Null a b = refl
  row-groups (Truth x) a b = refl
  row-groups (Bytes x) a b = refl
  row-groups (Rows x) a b = refl
  row-groups (Fields x) a b = refl
  row-groups (Entry x) a b = refl

  row-neutral : (row : Row) (rest : ℤ) → joined neutral rest ≡ rest → joined neutral (row_joined joined row rest) ≡ row_joined joined row rest
  row-neutral (Int n) rest e =
      sym (law.any_groups neutral n rest)
      ∙ ap (λ (t : ℤ). joined t rest) (law.any_order neutral n)
      ∙ law.any_groups n neutral rest
      ∙ ap (joined n) e
  row-neutral Null rest e = e
  row-neutral (Truth x) rest e = e
  row-neutral (Bytes x) rest e = e
  row-neutral (Rows x) rest e = e
  row-neutral (Fields x) rest e = e
  row-neutral (Entry x) rest e = e

  -- the neutral number joined once more
  pub folded-neutral : (rows : List Row) → joined neutral (folded joined neutral rows) ≡ folded joined neutral rows
  folded-neutral [] = law.any_times
  folded-neutral (row ∷ rows) = row-neutral row (folded joined neutral rows) (folded-neutral rows)

  -- rows and the rows after them
  pub folded-append : (rows more : List Row) → folded joined neutral (rows ++ more) ≡ joined (folded joined neutral rows) (folded joined neutral more)
  folded-append [] more = sym (folded-neutral more)
  folded-append (row ∷ rows) more =
      ap (row_joined joined row) (folded-append rows more)
      ∙ sym (row-groups row (folded joined neutral rows) (folded joined neutral more))

  one-number : (total n : ℤ) → joined neutral total ≡ total → joined total (joined n neutral) ≡ joined total n
  one-number total n e =
      ap (joined total) (law.any_order n neutral)
      ∙ sym (law.any_groups total neutral n)
      ∙ ap (λ (t : ℤ). joined t n) (law.any_order total neutral ∙ e)

  one-row : (row : Row) (total : ℤ) → joined neutral total ≡ total → joined total (folded joined neutral (row ∷ [])) ≡ joined total (number_or neutral row)
  one-row (Int n) total e = one-number total n e
  one-row Null total e = refl
  one-row (Truth x) total e = refl
  one-row (Bytes x) total e = refl
  one-row (Rows x) total e = refl
  one-row (Fields x) total e = refl
  one-row (Entry x) total e = refl

  -- a row more
  pub fold_more : (rows : List Row) (i : ℕ) (total add next : ℤ) → i < length rows → total ≡ folded joined neutral (take i rows) → add ≡ number_or neutral (row rows i) → next ≡ joined total add → next ≡ folded joined neutral (take (i + 1) rows)
  fold_more rows i total add next h e a n =
      let whole : joined neutral total ≡ total = ap (joined neutral) e ∙ folded-neutral (take i rows) ∙ sym e in
      n
      ∙ ap (joined total) a
      ∙ sym (one-row (row rows i) total whole)
      ∙ ap (λ (t : ℤ). joined t (folded joined neutral (row rows i ∷ []))) e
      ∙ sym (folded-append (take i rows) (row rows i ∷ []))
      ∙ ap (folded joined neutral) (sym (take_more rows i Null h))

  -- a block of rows more
  pub fold_block_more : (rows : List Row) (at n : ℕ) (total block next : ℤ) → total ≡ folded joined neutral (take at rows) → block ≡ folded joined neutral (take n (drop at rows)) → next ≡ joined total block → next ≡ folded joined neutral (take (at + n) rows)
  fold_block_more rows at n total block next e b f =
      f
      ∙ ap (joined total) b
      ∙ ap (λ (t : ℤ). joined t (folded joined neutral (take n (drop at rows)))) e
      ∙ sym (folded-append (take at rows) (take n (drop at rows)))
      ∙ ap (folded joined neutral) (sym (take-add at n rows))

  -- past the last row the fold is that of all
  pub fold_end : (rows : List Row) (i : ℕ) (total : ℤ) → length rows ≤ i → total ≡ folded joined neutral (take i rows) → total ≡ folded joined neutral rows
  fold_end rows i total h e = e ∙ ap (folded joined neutral) (take_all i rows h)

length-masked : (bits : List Bool) (rows : List Row) → length bits ≡ length rows → length (masked bits rows) ≡ length rows
length-masked [] [] e = refl
length-masked [] (x ∷ rows) e = absurd (omega arith)
length-masked (b ∷ bits) [] e = absurd (omega arith)
length-masked (b ∷ bits) (x ∷ rows) e = ap suc (length-masked bits rows (omega arith))

row-masked : (bits : List Bool) (rows : List Row) (i : ℕ) → length bits ≡ length rows → i < length rows → row (masked bits rows) i ≡ kept (slice_index_or bits i false) (row rows i)
row-masked [] [] i e h = absurd (omega arith)
row-masked [] (x ∷ rows) i e h = absurd (omega arith)
row-masked (b ∷ bits) [] i e h = absurd (omega arith)
row-masked (b ∷ bits) (x ∷ rows) zero e h = refl
row-masked (b ∷ bits) (x ∷ rows) (suc i) e h = row-masked bits rows i (omega arith) (omega arith)

masked-no_rows : (bits : List Bool) → masked bits [] ≡ []
masked-no_rows [] = refl
masked-no_rows (bit ∷ bits) = refl

drop-masked : (k : ℕ) (bits : List Bool) (rows : List Row) → drop k (masked bits rows) ≡ masked (drop k bits) (drop k rows)
drop-masked zero bits rows = refl
drop-masked (suc k) [] rows = refl
drop-masked (suc k) (bit ∷ bits) [] = sym (masked-no_rows (drop k bits))
drop-masked (suc k) (bit ∷ bits) (row ∷ rows) = drop-masked k bits rows

take-masked : (k : ℕ) (bits : List Bool) (rows : List Row) → take k (masked bits rows) ≡ masked (take k bits) (take k rows)
take-masked zero bits rows = refl
take-masked (suc k) [] rows = refl
take-masked (suc k) (bit ∷ bits) [] = refl
take-masked (suc k) (bit ∷ bits) (row ∷ rows) = ap (λ rest. kept bit row ∷ rest) (take-masked k bits rows)

-- where all bits are 1 no row is masked
pub masked-all : (bits : List Bool) (rows : List Row) → length bits ≡ length rows → list_all (λ b. b) bits ≡ true → masked bits rows ≡ rows
masked-all [] [] e all = refl
masked-all [] (x ∷ rows) e all = absurd (omega arith)
masked-all (b ∷ bits) [] e all = absurd (omega arith)
masked-all (true ∷ bits) (x ∷ rows) e all = ap (λ rest. x ∷ rest) (masked-all bits rows (omega arith) all)
masked-all (false ∷ bits) (x ∷ rows) e all = cc

-- where all bits are 0 no row is folded
pub folded-none : (joined : ℤ → ℤ → ℤ) (neutral : ℤ) (bits : List Bool) (rows : List Row) → ((i : ℕ) → i < length bits → get_or bits i false ≡ false) → folded joined neutral (masked bits rows) ≡ neutral
folded-none joined neutral [] [] none = refl
folded-none joined neutral [] (row ∷ rows) none = refl
folded-none joined neutral (bit ∷ bits) [] none = refl
folded-none joined neutral (true ∷ bits) (row ∷ rows) none = let first = none 0 (omega arith) in cc
folded-none joined neutral (false ∷ bits) (row ∷ rows) none = folded-none joined neutral bits rows (λ i lt. none (suc i) (omega arith))

-- the length of a window is the one asked for
pub length-window : {A : Type 0} (xs : List A) (at n : ℕ) → at + n ≤ length xs → length (take n (drop at xs)) ≡ n
length-window xs at n h = length-take-le n (drop at xs) (omega (arith, length-drop at xs))

module _ {A : Type 0} (value : A → ℤ) (xs : List A) where
  -- the number of rows is that of stored numbers
  pub length-slots : length (number_slots value xs) ≡ length xs
  length-slots = length-map xs (λ (x : A). Int (value x))

  row-slots : (i : ℕ) (x : A) → i < length xs → x ≡ get_or xs i x → row (number_slots value xs) i ≡ Int (value x)
  row-slots i x h e = get_or-map (λ (y : A). Int (value y)) xs i x Null h ∙ ap (λ (y : A). Int (value y)) (sym e)

  -- each row has its number
  pub slot-number : (neutral : ℤ) (i : ℕ) (x : A) → i < length xs → x ≡ get_or xs i x → value x ≡ number_or neutral (row (number_slots value xs) i)
  slot-number neutral i x h e = sym (ap (number_or neutral) (row-slots i x h e))

  module _ (bits : List Bool) (long : length bits ≡ length xs) where
    as-long : length bits ≡ length (number_slots value xs)
    as-long = long ∙ sym length-slots

    -- a mask does not change the number of rows
    pub length-masked_slots : length (masked bits (number_slots value xs)) ≡ length xs
    length-masked_slots = length-masked bits (number_slots value xs) as-long ∙ length-slots

    -- and each row has its number where its bit is set
    pub masked_slot-number : (neutral : ℤ) (i : ℕ) (x : A) (add : ℤ) → i < length xs → x ≡ get_or xs i x → add ≡ number_or neutral (kept (slice_index_or bits i false) (Int (value x))) → add ≡ number_or neutral (row (masked bits (number_slots value xs)) i)
    masked_slot-number neutral i x add h e a =
        let below : i < length (number_slots value xs) = omega (arith, length-slots) in
        a
        ∙ ap (λ (r : Row). number_or neutral (kept (slice_index_or bits i false) r)) (sym (row-slots i x h e))
        ∙ ap (number_or neutral) (sym (row-masked bits (number_slots value xs) i as-long below))

  -- a window of rows under a mask is what the windows of both are
  pub masked_slots-window : (bits : List Bool) (at n : ℕ) → masked (take n (drop at bits)) (number_slots value (take n (drop at xs))) ≡ take n (drop at (masked bits (number_slots value xs)))
  masked_slots-window bits at n =
      let slots : number_slots value (take n (drop at xs)) ≡ take n (drop at (number_slots value xs)) = sym (ap (take n) (drop-map (λ (y : A). Int (value y)) at xs) ∙ take-map (λ (y : A). Int (value y)) n (drop at xs)) in
      ap (masked (take n (drop at bits))) slots
      ∙ sym (ap (take n) (drop-masked at bits (number_slots value xs)) ∙ take-masked n (drop at bits) (drop at (number_slots value xs)))

  -- the same where the windows are given
  pub block_rows : (bits part : List Bool) (at n m : ℕ) → part ≡ take n (drop at bits) → m ≡ n → masked part (number_slots value (take m (drop at xs))) ≡ take n (drop at (masked bits (number_slots value xs)))
  block_rows bits part at n m e f =
      ap (λ b. masked b (number_slots value (take m (drop at xs)))) e
      ∙ ap (λ k. masked (take n (drop at bits)) (number_slots value (take k (drop at xs)))) f
      ∙ masked_slots-window bits at n

-- the number of rows is that of stored rows
pub length-rows : (validity : Option (List Bool)) (slots : List Row) → HasBits (length slots) validity → length (rows_under validity slots) ≡ length slots
length-rows None slots bits = refl
length-rows (Some bits) slots long = length-masked bits slots long

equal_test : (a b : ℕ) → a ≡ b → eqb a b ≡ true
equal_test a b e = grind (arith, nat_tests)

unequal_test : (a b : ℕ) → (a ≡ b → ⊥) → eqb a b ≡ false
unequal_test a b e = grind (arith, nat_tests)

-- a fold is given where not all rows are null
module _ (joined : ℤ → ℤ → ℤ) (neutral : ℤ) (rows : List Row) (nulls len : ℕ) (is_nulls : nulls ≡ null_total rows) (is_len : len ≡ length rows) where
  pub no_fold : nulls ≡ len → None ≡ folded_if_any joined neutral rows
  no_fold e = sym (ap (λ b. cond b None (Some (folded joined neutral rows))) (ap₂ eqb (sym is_nulls) (sym is_len) ∙ equal_test nulls len e))

  pub some_fold : (x : ℤ) → (nulls ≡ len → ⊥) → x ≡ folded joined neutral rows → Some x ≡ folded_if_any joined neutral rows
  some_fold x e f =
      ap (λ (y : ℤ). Some y) f
      ∙ sym (ap (λ b. cond b None (Some (folded joined neutral rows))) (ap₂ eqb (sym is_nulls) (sym is_len) ∙ unequal_test nulls len e))

-- the number of null rows, by recursion
nulls : List Row → ℕ
nulls [] = 0
nulls (row ∷ rows) = cond (is_null row) (1 + nulls rows) (nulls rows)

nulls-are : (rows : List Row) → nulls rows ≡ null_total rows
unfolding nulls
nulls-are rows = is_count_by nulls is_null refl (λ row rest. refl) rows

few-nulls : (rows : List Row) → nulls rows ≤ length rows
few-nulls rows = omega (arith, nulls-are rows, count_by-le-length is_null rows)

-- where all rows are null none is folded
folded-nulls : (joined : ℤ → ℤ → ℤ) (neutral : ℤ) (rows : List Row) → nulls rows ≡ length rows → folded joined neutral rows ≡ neutral
unfolding nulls
folded-nulls joined neutral [] e = refl
folded-nulls joined neutral (Null ∷ rows) e = folded-nulls joined neutral rows (omega arith)
folded-nulls joined neutral (Int n ∷ rows) e = absurd (omega (arith, few-nulls rows))
folded-nulls joined neutral (Truth x ∷ rows) e = absurd (omega (arith, few-nulls rows))
folded-nulls joined neutral (Bytes x ∷ rows) e = absurd (omega (arith, few-nulls rows))
folded-nulls joined neutral (Rows x ∷ rows) e = absurd (omega (arith, few-nulls rows))
folded-nulls joined neutral (Fields x ∷ rows) e = absurd (omega (arith, few-nulls rows))
folded-nulls joined neutral (Entry x ∷ rows) e = absurd (omega (arith, few-nulls rows))

module _ (joined : ℤ → ℤ → ℤ) (neutral : ℤ) (rows : List Row) (x start : ℤ) (first : start ≡ neutral) (whole : x ≡ folded joined neutral rows) (unequal : not (int_eq x start) ≡ true) where
  by_presence : (none : Bool) → none_present rows ≡ none → Some x ≡ folded_if_any joined neutral rows
  by_presence false e = ap (λ (y : ℤ). Some y) whole ∙ sym (ap (λ b. cond b None (Some (folded joined neutral rows))) e)
  by_presence true e =
      let all : nulls rows ≡ length rows = nulls-are rows ∙ eqb-true (null_total rows) (length rows) e in
      let same : x ≡ start = whole ∙ folded-nulls joined neutral rows all ∙ sym first in
      let equal : not (int_eq x start) ≡ false = ap (λ (y : ℤ). not (int_eq y start)) same ∙ ap not (int_eq_equiv.refl start) in
      cc

  -- a total that is not the neutral number is that of some rows
  pub unequal_fold : Some x ≡ folded_if_any joined neutral rows
  unequal_fold = by_presence (none_present rows) refl
