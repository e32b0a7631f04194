-- Rows of stored numbers, place by place and block by block.
use Rattle.std.proofs.Common.{◌≡◌, ◌<◌, ◌≤◌, ◌+◌, ◌∙◌, ℕ, zero, suc, Bool, false, List, [], ◌∷◌, length, take, drop, get_or, refl, sym, ap, subst, arith}
use Rattle.std.specs.Prelude.{ℤ, slice_index_or, Option, Some, None}
use Rattle.std.proofs.lemmas.List.{length-drop, length-map, length-take-le, get_or-map, get_or-take, get_or-drop, take-map, drop-map}
use Rattle.polars_arrays_flat.specs.Row.{Row, Null, Int}
use Rattle.polars_arrays_flat.specs.StoredRows.{row, kept, masked, number_slots, rows_under}
use Rattle.polars_arrays_flat.specs.Validity.{HasBits}
use Rattle.polars_compute_slots.specs.Slots.{HasSlot, HaveSlots}

length-masked : (bits : List Bool) (rows : List Row) → length bits ≡ length rows → length (masked bits rows) ≡ length rows
length-masked [] [] e = refl
length-masked [] (x ∷ rows) e = absurd (omega arith)
length-masked (b ∷ bits) [] e = absurd (omega arith)
length-masked (b ∷ bits) (x ∷ rows) e = ap suc (length-masked bits rows (omega arith))

row-masked : (bits : List Bool) (rows : List Row) (i : ℕ) → length bits ≡ length rows → i < length rows → row (masked bits rows) i ≡ kept (slice_index_or bits i false) (row rows i)
row-masked [] [] i e h = absurd (omega arith)
row-masked [] (x ∷ rows) i e h = absurd (omega arith)
row-masked (b ∷ bits) [] i e h = absurd (omega arith)
row-masked (b ∷ bits) (x ∷ rows) zero e h = refl
row-masked (b ∷ bits) (x ∷ rows) (suc i) e h = row-masked bits rows i (omega arith) (omega arith)

masked-no_rows : (bits : List Bool) → masked bits [] ≡ []
masked-no_rows [] = refl
masked-no_rows (bit ∷ bits) = refl

drop-masked : (k : ℕ) (bits : List Bool) (rows : List Row) → drop k (masked bits rows) ≡ masked (drop k bits) (drop k rows)
drop-masked zero bits rows = refl
drop-masked (suc k) [] rows = refl
drop-masked (suc k) (bit ∷ bits) [] = sym (masked-no_rows (drop k bits))
drop-masked (suc k) (bit ∷ bits) (row ∷ rows) = drop-masked k bits rows

take-masked : (k : ℕ) (bits : List Bool) (rows : List Row) → take k (masked bits rows) ≡ masked (take k bits) (take k rows)
take-masked zero bits rows = refl
take-masked (suc k) [] rows = refl
take-masked (suc k) (bit ∷ bits) [] = refl
take-masked (suc k) (bit ∷ bits) (row ∷ rows) = ap (λ rest. kept bit row ∷ rest) (take-masked k bits rows)

-- the length of a window is the one asked for
pub length-window : {A : Type 0} (xs : List A) (at n : ℕ) → at + n ≤ length xs → length (take n (drop at xs)) ≡ n
length-window xs at n h = length-take-le n (drop at xs) (omega (arith, length-drop at xs))

module _ {A : Type 0} (value : A → ℤ) (xs : List A) where
  -- the number of rows is that of stored numbers
  pub length-slots : length (number_slots value xs) ≡ length xs
  length-slots = length-map xs (λ (x : A). Int (value x))

  -- each row has its number
  pub row-slots : (i : ℕ) (x : A) → i < length xs → x ≡ get_or xs i x → row (number_slots value xs) i ≡ Int (value x)
  row-slots i x h e = get_or-map (λ (y : A). Int (value y)) xs i x Null h ∙ ap (λ (y : A). Int (value y)) (sym e)

  -- a window of rows without a mask
  pub block_slots : (at n m : ℕ) → m ≡ n → number_slots value (take m (drop at xs)) ≡ take n (drop at (number_slots value xs))
  block_slots at n m f =
      ap (λ k. number_slots value (take k (drop at xs))) f
      ∙ sym (ap (take n) (drop-map (λ (y : A). Int (value y)) at xs) ∙ take-map (λ (y : A). Int (value y)) n (drop at xs))

  module _ (bits : List Bool) (long : length bits ≡ length xs) where
    as-long : length bits ≡ length (number_slots value xs)
    as-long = long ∙ sym length-slots

    -- a mask does not change the number of rows
    pub length-masked_slots : length (masked bits (number_slots value xs)) ≡ length xs
    length-masked_slots = length-masked bits (number_slots value xs) as-long ∙ length-slots

    -- and each row has its number where its bit is set
    pub row-masked_slots : (i : ℕ) (x : A) (bit : Bool) → i < length xs → x ≡ get_or xs i x → bit ≡ slice_index_or bits i false → row (masked bits (number_slots value xs)) i ≡ kept bit (Int (value x))
    row-masked_slots i x bit h e is =
        let below : i < length (number_slots value xs) = omega (arith, length-slots) in
        row-masked bits (number_slots value xs) i as-long below
        ∙ ap (kept (slice_index_or bits i false)) (row-slots i x h e)
        ∙ ap (λ b. kept b (Int (value x))) (sym is)

  -- a window of rows under a mask is what the windows of both are
  masked_slots-window : (bits : List Bool) (at n : ℕ) → masked (take n (drop at bits)) (number_slots value (take n (drop at xs))) ≡ take n (drop at (masked bits (number_slots value xs)))
  masked_slots-window bits at n =
      ap (masked (take n (drop at bits))) (block_slots at n n refl)
      ∙ sym (ap (take n) (drop-masked at bits (number_slots value xs)) ∙ take-masked n (drop at bits) (drop at (number_slots value xs)))

  -- the same where the windows are given
  pub block_rows : (bits part : List Bool) (at n m : ℕ) → part ≡ take n (drop at bits) → m ≡ n → masked part (number_slots value (take m (drop at xs))) ≡ take n (drop at (masked bits (number_slots value xs)))
  block_rows bits part at n m e f =
      ap (λ b. masked b (number_slots value (take m (drop at xs)))) e
      ∙ ap (λ k. masked (take n (drop at bits)) (number_slots value (take k (drop at xs)))) f
      ∙ masked_slots-window bits at n

-- the number of rows is that of stored rows
pub length-rows : (validity : Option (List Bool)) (slots : List Row) → HasBits (length slots) validity → length (rows_under validity slots) ≡ length slots
length-rows None slots bits = refl
length-rows (Some bits) slots long = length-masked bits slots long

-- ---- slots of rows

-- the row at a place has a slot
pub has_slot : (least : ℤ) (n : ℕ) (rows : List Row) (i : ℕ) (r : Row) → HaveSlots least n rows → i < length rows → row rows i ≡ r → HasSlot least n r
has_slot least n rows i r have lt e = subst (HasSlot least n) e (have.each i lt)

-- so have those of a window
pub window_slots : (least : ℤ) (n : ℕ) (rows : List Row) (at m : ℕ) → HaveSlots least n rows → at + m ≤ length rows → HaveSlots least n (take m (drop at rows))
window_slots least n rows at m have h =
    record {
      each = λ i lt.
          let below : i < m = omega (arith, length-window rows at m h) in
          subst (HasSlot least n) (sym (get_or-take m (drop at rows) i Null below ∙ get_or-drop at rows i Null)) (have.each (at + i) (omega arith));
    }
