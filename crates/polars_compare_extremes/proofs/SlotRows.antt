-- From stored rows and a mask to rows.
use Rattle.std.proofs.Common.{◌≡◌, ◌<◌, ◌∙◌, ℕ, zero, suc, Bool, true, false, List, [], ◌∷◌, length, refl, sym, ap, ap₂, subst, arith}
use Rattle.std.specs.Prelude.{◌≢◌, Option, Some, None, slice_index_or}
use Rattle.polars_arrays_flat.specs.Row.{Row, Null}
use Rattle.polars_arrays_flat.specs.StoredRows.{row, kept, masked, rows_under}
use Rattle.polars_arrays_flat.specs.Validity.{HasBits, is_present}
use Rattle.polars_compare_extremes.specs.Extremes.{FindsBest, IsBest, NonePresent}
use Rattle.polars_compare_extremes.specs.Places.{IsBestSlot}

length-masked : (bits : List Bool) (rows : List Row) → length bits ≡ length rows → length (masked bits rows) ≡ length rows
length-masked [] [] e = refl
length-masked [] (x ∷ rows) e = absurd (omega arith)
length-masked (b ∷ bits) [] e = absurd (omega arith)
length-masked (b ∷ bits) (x ∷ rows) e = ap suc (length-masked bits rows (omega arith))

masked-at : (bits : List Bool) (rows : List Row) (k : ℕ) → length bits ≡ length rows → k < length rows → row (masked bits rows) k ≡ kept (slice_index_or bits k false) (row rows k)
masked-at [] [] k e h = absurd (omega arith)
masked-at [] (x ∷ rows) k e h = absurd (omega arith)
masked-at (b ∷ bits) [] k e h = absurd (omega arith)
masked-at (b ∷ bits) (x ∷ rows) zero e h = refl
masked-at (b ∷ bits) (x ∷ rows) (suc k) e h = masked-at bits rows k (omega arith) (omega arith)

pub length-under : (mask : Option (List Bool)) (rows : List Row) → HasBits (length rows) mask → length (rows_under mask rows) ≡ length rows
length-under None rows bits = refl
length-under (Some mask) rows bits = length-masked mask rows bits

pub row-under : (mask : Option (List Bool)) (rows : List Row) (k : ℕ) → HasBits (length rows) mask → k < length rows → row (rows_under mask rows) k ≡ kept (is_present mask k) (row rows k)
row-under None rows k bits h = refl
row-under (Some mask) rows k bits h = masked-at mask rows k bits h

kept-present : (bit : Bool) (x : Row) → kept bit x ≢ Null → bit ≡ true
kept-present true x h = refl
kept-present false x h = absurd (h refl)

module _ (mask : Option (List Bool)) (slots : List Row) (slot : ℕ → Row) (is_slot : (k : ℕ) → k < length slots → row slots k ≡ slot k) (filled : (k : ℕ) → k < length slots → slot k ≢ Null) (bits : HasBits (length slots) mask) where
  abbrev rows : List Row
  rows = rows_under mask slots

  row-at : (k : ℕ) → k < length slots → row rows k ≡ kept (is_present mask k) (slot k)
  row-at k h = row-under mask slots k bits h ∙ ap (kept (is_present mask k)) (is_slot k h)

  present-at : (k : ℕ) → k < length slots → is_present mask k ≡ true → row rows k ≡ slot k
  present-at k h p = row-at k h ∙ ap (λ (bit : Bool). kept bit (slot k)) p

  is_there : (k : ℕ) → k < length slots → row rows k ≢ Null → is_present mask k ≡ true
  is_there k h p = kept-present (is_present mask k) (slot k) (subst (λ (x : Row). x ≢ Null) (row-at k h) p)

  pub none-present : ((k : ℕ) → k < length slots → is_present mask k ≡ false) → NonePresent rows
  none-present absent k h =
      let below : k < length slots = omega (arith, length-under mask slots bits, h) in
      row-at k below ∙ ap (λ (bit : Bool). kept bit (slot k)) (absent k below)

  pub best-row : (better : Row → Row → Bool) (place : ℕ) → IsBestSlot better slot mask (length slots) place → IsBest better rows place
  best-row better place b =
      let here : row rows place ≡ slot place = present-at place b.within b.present in
      record {
        within = omega (arith, length-under mask slots bits, b.within);
        present = λ e. filled place b.within (sym here ∙ e);
        best = λ k h p.
            let below : k < length slots = omega (arith, length-under mask slots bits, h) in
            let q : is_present mask k ≡ true = is_there k below p in
            ap₂ better (present-at k below q) here ∙ b.best k below q;
        first = λ k h p.
            let below : k < length slots = omega (arith, h, b.within) in
            let q : is_present mask k ≡ true = is_there k below p in
            ap₂ better here (present-at k below q) ∙ b.first k h q;
      }

  pub best-found : (better : Row → Row → Bool) (place : ℕ) → IsBestSlot better slot mask (length slots) place → FindsBest better rows (slot place)
  best-found better place b = record {
    place = place;
    is_best = best-row better place b;
    is_row = sym (present-at place b.within b.present);
  }
