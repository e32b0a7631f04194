-- Worked examples of the definitions.
use Rattle.std.proofs.Common.{arith}
use Rattle.std.specs.Prelude.{◌≡◌, ◌≢◌, ◌<◌, ℕ, zero, suc, pos, true, false, List, [], ◌∷◌, refl}
use Rattle.polars_arrays_flat.specs.Row.{Row, Null, Bytes, Truth}
use Rattle.polars_arrays_flat.specs.StoredRows.{row}
use Rattle.polars_compare_leaves.specs.Order.{row_less, row_greater}
use Rattle.polars_compare_extremes.specs.BestNumber.{best_of}
use Rattle.polars_compare_extremes.specs.Extremes.{IsBest, IsLeast, NonePresent}
use Rattle.polars_compare_extremes.specs.Truths.{is_there, is_truth}

-- the texts b, null, ab, b
abbrev texts : List Row
texts = Bytes (98 ∷ []) ∷ Null ∷ Bytes (97 ∷ 98 ∷ []) ∷ Bytes (98 ∷ []) ∷ []

-- the least is ab
least-text : IsLeast texts (Bytes (97 ∷ 98 ∷ []))
least-text = record {
  place = 2;
  is_row = refl;
  is_best = record { within = omega arith; present = λ e. cc; best = best; first = first };
}
  where
    best : (k : ℕ) → k < 4 → row texts k ≢ Null → row_less (row texts k) (Bytes (97 ∷ 98 ∷ [])) ≡ false
    best zero h p = refl
    best (suc zero) h p = refl
    best (suc (suc zero)) h p = refl
    best (suc (suc (suc zero))) h p = refl
    best (suc (suc (suc (suc k)))) h p = absurd (omega arith)

    first : (k : ℕ) → k < 2 → row texts k ≢ Null → row_less (Bytes (97 ∷ 98 ∷ [])) (row texts k) ≡ true
    first zero h p = refl
    first (suc zero) h p = absurd (p refl)
    first (suc (suc k)) h p = absurd (omega arith)

-- the greatest is the first b
greatest-text : IsBest row_greater texts 0
greatest-text = record { within = omega arith; present = λ e. cc; best = best; first = λ k h p. absurd (omega (arith, h)) }
  where
    best : (k : ℕ) → k < 4 → row texts k ≢ Null → row_greater (row texts k) (Bytes (98 ∷ [])) ≡ false
    best zero h p = refl
    best (suc zero) h p = refl
    best (suc (suc zero)) h p = refl
    best (suc (suc (suc zero))) h p = refl
    best (suc (suc (suc (suc k)))) h p = absurd (omega arith)

-- the last b is not the first of the greatest
last-text : IsBest row_greater texts 3 → ⊥
last-text b = let e : false ≡ true = b.first 0 (omega arith) (λ e. cc) in cc

-- of nulls alone none is present
no-text : NonePresent (Null ∷ Null ∷ [])
no-text zero h = refl
no-text (suc zero) h = refl
no-text (suc (suc k)) h = absurd (omega arith)

there-null : is_there Null ≡ false
there-null = refl

truth-false : is_truth false (Truth false) ≡ true
truth-false = refl

-- the lesser and the greater of two numbers
lesser-number : best_of row_less (pos 3) (pos 2) ≡ pos 2
lesser-number = refl

greater-number : best_of row_greater (pos 3) (pos 2) ≡ pos 3
greater-number = refl
