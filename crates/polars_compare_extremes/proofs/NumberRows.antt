-- From stored numbers and a mask to rows.
use Rattle.std.proofs.Common.{◌≡◌, ◌<◌, ◌∙◌, ℕ, zero, suc, Bool, true, false, eqb, List, [], ◌∷◌, length, refl, sym, ap, ap₂, subst, arith, get_or}
use Rattle.std.specs.Prelude.{◌≢◌, ℤ, Option, None}
use Rattle.std.proofs.lemmas.Bool.Decides.{nat_tests}
use Rattle.std.proofs.lemmas.List.{length-map, get_or-map}
use Rattle.polars_arrays_flat.specs.Row.{Row, Null, Int}
use Rattle.polars_arrays_flat.specs.SlotLaws.{number_slots-present}
use Rattle.polars_arrays_flat.specs.StoredRows.{row, kept, rows_under, number_slots}
use Rattle.polars_arrays_flat.specs.Validity.{HasBits, is_present}
use Rattle.polars_compute_reductions.specs.Folds.{folded}
use Rattle.polars_compare_extremes.specs.BestNumber.{best_of}
use Rattle.polars_compare_extremes.specs.Extremes.{FindsBest, NonePresent}
use Rattle.polars_compare_extremes.specs.Places.{IsFirstPresent}
use Rattle.polars_compare_extremes.specs.Preference.{Prefers}
use Rattle.polars_compare_extremes.proofs.BestRows.{AreNumbers, best-found}
use Rattle.polars_compare_extremes.proofs.SlotRows.{length-under, none-present, row-under}

-- each stored number is a number
all-numbers : {A : Type 0} (value : A → ℤ) (xs : List A) (k : ℕ) → k < length xs → (z : ℤ) × (row (number_slots value xs) k ≡ Int z)
all-numbers value [] k h = absurd (omega arith)
all-numbers value (x ∷ xs) zero h = (value x, refl)
all-numbers value (x ∷ xs) (suc k) h = all-numbers value xs k (omega arith)

kept-number : (bit : Bool) (z : ℤ) (x : Row) → x ≡ kept bit (Int z) → x ≢ Null → (v : ℤ) × (x ≡ Int v)
kept-number true z x e p = (z, e)
kept-number false z x e p = absurd (p e)

none-left : (n : ℕ) → eqb n 0 ≡ true → n ≡ 0
none-left n e = grind (arith, nat_tests)

some-left : (n : ℕ) → eqb n 0 ≡ false → 0 < n
some-left n e = grind (arith, nat_tests)

module _ {A : Type 0} (value : A → ℤ) (xs : List A) where
  abbrev slots : List Row
  slots = number_slots value xs

  many : length slots ≡ length xs
  many = length-map xs (λ (x : A). Int (value x))

  -- a number that is read is the stored row there
  number-at : (i : ℕ) (x : A) → i < length xs → x ≡ get_or xs i x → row slots i ≡ Int (value x)
  number-at i x h e = get_or-map (λ (y : A). Int (value y)) xs i x Null h ∙ ap (λ (y : A). Int (value y)) (sym e)

  module _ (mask : Option (List Bool)) (bits : HasBits (length xs) mask) where
    has_bits : HasBits (length slots) mask
    has_bits = subst (λ (n : ℕ). HasBits n mask) (sym many) bits

    pub no_number : ((k : ℕ) → k < length xs → is_present mask k ≡ false) → NonePresent (rows_under mask slots)
    no_number absent =
        none-present mask slots (row slots) (λ k h. refl) (number_slots-present value xs) has_bits (λ k h. absent k (omega (arith, h, many)))

    -- each present row is a number
    are-numbers : AreNumbers (rows_under mask slots)
    are-numbers k h p =
        let below : k < length slots = omega (arith, length-under mask slots has_bits, h) in
        let z = all-numbers value xs k (omega (arith, below, many)) in
        kept-number (is_present mask k) z.0 (row (rows_under mask slots) k) (row-under mask slots k has_bits below ∙ ap (kept (is_present mask k)) z.1) p

    -- the first present row has its number
    first-number : (i : ℕ) (x : A) → IsFirstPresent (length xs) mask i → x ≡ get_or xs i x → row (rows_under mask slots) i ≡ Int (value x)
    first-number i x first e =
        row-under mask slots i has_bits (omega (arith, many, first.within))
        ∙ ap₂ kept first.present (number-at i x first.within e)

    first-within : (i : ℕ) → IsFirstPresent (length xs) mask i → i < length (rows_under mask slots)
    first-within i first = omega (arith, length-under mask slots has_bits, many, first.within)

    -- the present numbers folded from the first one on are the best row
    pub found-from : (better : Row → Row → Bool) (law : Prefers Int better) (i : ℕ) (x : A) (found : ℤ) → IsFirstPresent (length xs) mask i → x ≡ get_or xs i x → found ≡ folded (best_of better) (value x) (rows_under mask slots) → FindsBest better (rows_under mask slots) (Int found)
    found-from better law i x found first e is =
        subst (λ (m : ℤ). FindsBest better (rows_under mask slots) (Int m)) (sym is)
        (best-found better law (value x) (rows_under mask slots) i are-numbers (first-within i first) (first-number i x first e))

  -- without a mask the first number is the first present one
  pub from-start : eqb (length xs) 0 ≡ false → IsFirstPresent (length xs) None 0
  from-start e = record { within = some-left (length xs) e; present = refl; before = λ k lt. absurd (omega arith) }

  pub no_numbers : eqb (length xs) 0 ≡ true → NonePresent slots
  no_numbers e k h = absurd (omega (arith, many, none-left (length xs) e, h))
