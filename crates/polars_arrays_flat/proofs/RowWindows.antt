-- Rows of windows, of masks that are all 0, and of stored values that are all the same.
use Rattle.std.proofs.Common.{◌≡◌, ℕ, ℤ, zero, suc, ◌+◌, ◌-◌, ◌≤◌, Bool, true, false, List, [], ◌∷◌, length, take, drop, map, replicate, refl, ap, sym, ◌∙◌, arith}
use Rattle.std.specs.Prelude.{Option, Some, None, slice_index_or}
use Rattle.std.proofs.lemmas.List.{take-map, drop-map, take-replicate, drop-replicate}
use Rattle.polars_arrays_flat.specs.ArrayRows.{filled_row, MasksByPlace}
use Rattle.polars_arrays_flat.specs.Row.{Row, Null, Int, Truth}
use Rattle.polars_arrays_flat.specs.StoredRows.{row, kept, masked, rows_under, number_slots, truth_slots}
use Rattle.polars_arrays_flat.specs.Validity.{window, validity_window}

masked-no_rows : (bits : List Bool) → masked bits [] ≡ []
masked-no_rows [] = refl
masked-no_rows (bit ∷ bits) = refl

drop-masked : (k : ℕ) (bits : List Bool) (rows : List Row) → drop k (masked bits rows) ≡ masked (drop k bits) (drop k rows)
drop-masked zero bits rows = refl
drop-masked (suc k) [] rows = refl
drop-masked (suc k) (bit ∷ bits) [] = sym (masked-no_rows (drop k bits))
drop-masked (suc k) (bit ∷ bits) (row ∷ rows) = drop-masked k bits rows

take-masked : (k : ℕ) (bits : List Bool) (rows : List Row) → take k (masked bits rows) ≡ masked (take k bits) (take k rows)
take-masked zero bits rows = refl
take-masked (suc k) [] rows = refl
take-masked (suc k) (bit ∷ bits) [] = refl
take-masked (suc k) (bit ∷ bits) (row ∷ rows) = ap (λ rest. kept bit row ∷ rest) (take-masked k bits rows)

-- a window of the rows is what the windows of stored rows and validity are
pub rows-window : (at n : ℕ) (validity : Option (List Bool)) (rows : List Row) → rows_under (validity_window at n validity) (window at n rows) ≡ window at n (rows_under validity rows)
rows-window at n None rows = refl
rows-window at n (Some bits) rows =
    sym (ap (take n) (drop-masked at bits rows) ∙ take-masked n (drop at bits) (drop at rows))

window-map : {A B : Type 0} (f : A → B) (at n : ℕ) (xs : List A) → map f (window at n xs) ≡ window at n (map f xs)
window-map f at n xs = sym (ap (take n) (drop-map f at xs) ∙ take-map f n (drop at xs))

pub number_rows-window : {A : Type 0} (value : A → ℤ) (at n : ℕ) (validity : Option (List Bool)) (xs : List A) → rows_under (validity_window at n validity) (number_slots value (window at n xs)) ≡ window at n (rows_under validity (number_slots value xs))
number_rows-window value at n validity xs =
    ap (rows_under (validity_window at n validity)) (window-map (λ x. Int (value x)) at n xs) ∙ rows-window at n validity (number_slots value xs)

pub truth_rows-window : (at n : ℕ) (validity : Option (List Bool)) (xs : List Bool) → rows_under (validity_window at n validity) (truth_slots (window at n xs)) ≡ window at n (rows_under validity (truth_slots xs))
truth_rows-window at n validity xs =
    ap (rows_under (validity_window at n validity)) (window-map Truth at n xs) ∙ rows-window at n validity (truth_slots xs)

-- n rows of nulls are Null each
pub null_rows-window : (at n len : ℕ) → at + n ≤ len → replicate n Null ≡ window at n (replicate len Null)
null_rows-window at n len within =
    sym (ap (take n) (drop-replicate at len Null) ∙ take-replicate n (len - at) Null (omega arith))

-- where all bits are 0, all rows are Null
pub number_rows-unset : {A : Type 0} (value : A → ℤ) (n : ℕ) (x : A) → rows_under (Some (replicate n false)) (number_slots value (replicate n x)) ≡ replicate n Null
number_rows-unset value zero x = refl
number_rows-unset value (suc n) x = ap (λ rest. Null ∷ rest) (number_rows-unset value n x)

filled-kept : (bit : Bool) (x y : ℤ) → kept bit (Int x) ≡ filled_row x (kept bit (Int y))
filled-kept true x y = refl
filled-kept false x y = refl

masked-filled : {A : Type 0} (value : A → ℤ) (bits : List Bool) (xs : List A) (x : A) → masked bits (number_slots value (replicate (length xs) x)) ≡ map (filled_row (value x)) (masked bits (number_slots value xs))
masked-filled value [] xs x = refl
masked-filled value (bit ∷ bits) [] x = refl
masked-filled value (bit ∷ bits) (y ∷ xs) x =
    let first : kept bit (Int (value x)) ≡ filled_row (value x) (kept bit (Int (value y))) = filled-kept bit (value x) (value y) in
    let rest = masked-filled value bits xs x in
    cc

slots-filled : {A : Type 0} (value : A → ℤ) (xs : List A) (x : A) → number_slots value (replicate (length xs) x) ≡ map (filled_row (value x)) (number_slots value xs)
slots-filled value [] x = refl
slots-filled value (y ∷ xs) x = ap (λ rest. Int (value x) ∷ rest) (slots-filled value xs x)

-- the stored values are one number, and nulls stay null
pub number_rows-filled : {A : Type 0} (value : A → ℤ) (validity : Option (List Bool)) (xs : List A) (x : A) → rows_under validity (number_slots value (replicate (length xs) x)) ≡ map (filled_row (value x)) (rows_under validity (number_slots value xs))
number_rows-filled value None xs x = slots-filled value xs x
number_rows-filled value (Some bits) xs x = masked-filled value bits xs x

row-masked : (bits : List Bool) (rows : List Row) (i : ℕ) → row (masked bits rows) i ≡ kept (slice_index_or bits i false) (row rows i)
row-masked [] rows i = refl
row-masked (bit ∷ bits) [] i = kept-null (slice_index_or (bit ∷ bits) i false)
  where
    kept-null : (b : Bool) → Null ≡ kept b Null
    kept-null true = refl
    kept-null false = refl
row-masked (bit ∷ bits) (first ∷ rows) zero = refl
row-masked (bit ∷ bits) (first ∷ rows) (suc i) = row-masked bits rows i

pub row-under : MasksByPlace
row-under None rows i = refl
row-under (Some bits) rows i = row-masked bits rows i

pub ruleset windows = (rows-window, number_rows-window, truth_rows-window, null_rows-window)

pub ruleset fills = (number_rows-unset, number_rows-filled)

pub ruleset places = (row-under)
