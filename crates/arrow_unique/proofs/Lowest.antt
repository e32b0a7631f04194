-- Words whose lowest 1 is cleared.
use Rattle.std.proofs.Common.{◌≡◌, ◌≢◌, ◌<◌, ◌-◌, ◌/◌, ◌%◌, ◌^◌, ◌∙◌, ℕ, zero, suc, true, false, eqb, bit_and, min, refl, sym, ap, ap₂, arith}
use Rattle.std.specs.Int.{bit_at, w64, trailing_zeros}
use Rattle.std.proofs.lemmas.Nat.{and_le_r}
use Rattle.std.proofs.lemmas.Nat.Bits.{bit_at_and, bit_at_lowest, bit_at-suc, bit_at-trailing_zeros}
use Rattle.std.proofs.lemmas.Bool.{cases_eq}
use mathlib.Core.Logic.{⊎_elim}
use Rattle.polars_arrays_words.specs.Bits.{is_bit}

-- the lowest 1 of a word is at a place
record IsLowest (word at : ℕ) : Type 0 where
  pub here : bit_at word at ≡ 1
  pub below : (i : ℕ) → i < at → bit_at word i ≡ 0

half : (x t : ℕ) → IsLowest x (suc t) → IsLowest (x / 2) t
half x t h =
    record {
      here = sym (bit_at-suc x t) ∙ h.here;
      below = λ i lt. sym (bit_at-suc x i) ∙ h.below (suc i) (omega arith);
    }

-- the bits that a word has in common with its predecessor are its own, but for the lowest 1
both : (x t i : ℕ) → IsLowest x t → i ≢ t → min (bit_at x i) (bit_at (x - 1) i) ≡ bit_at x i
both x zero zero h apart = absurd (apart refl)
both x zero (suc i) h apart =
    let odd : x % 2 ≡ 1 = sym (bit_at_lowest x) ∙ h.here in
    let same : (x - 1) / 2 ≡ x / 2 = omega arith in
    let bit : bit_at (x - 1) (suc i) ≡ bit_at x (suc i) = bit_at-suc (x - 1) i ∙ ap (λ y. bit_at y i) same ∙ sym (bit_at-suc x i) in
    omega (arith, bit)
both x (suc t) zero h apart = omega (arith, h.below 0 (omega arith))
both x (suc t) (suc i) h apart =
    let even : x % 2 ≡ 0 = sym (bit_at_lowest x) ∙ h.below 0 (omega arith) in
    let less : (x - 1) / 2 ≡ x / 2 - 1 = omega arith in
    let bit : bit_at (x - 1) (suc i) ≡ bit_at (x / 2 - 1) i = bit_at-suc (x - 1) i ∙ ap (λ y. bit_at y i) less in
    ap₂ min (bit_at-suc x i) bit ∙ both (x / 2) t i (half x t h) (λ e. apart (ap suc e)) ∙ sym (bit_at-suc x i)

none : (x t : ℕ) → IsLowest x t → min (bit_at x t) (bit_at (x - 1) t) ≡ 0
none x zero h =
    let odd : x % 2 ≡ 1 = sym (bit_at_lowest x) ∙ h.here in
    omega (arith, bit_at_lowest (x - 1))
none x (suc t) h =
    let even : x % 2 ≡ 0 = sym (bit_at_lowest x) ∙ h.below 0 (omega arith) in
    let less : (x - 1) / 2 ≡ x / 2 - 1 = omega arith in
    let bit : bit_at (x - 1) (suc t) ≡ bit_at (x / 2 - 1) t = bit_at-suc (x - 1) t ∙ ap (λ y. bit_at y t) less in
    ap₂ min (bit_at-suc x t) bit ∙ none (x / 2) t (half x t h)

lowest : (x : ℕ) → 0 < x → x < 2 ^ 64 → IsLowest x (trailing_zeros w64 x)
lowest x some fits = let h = bit_at-trailing_zeros w64 x some fits in record { here = h.1; below = h.2 }

-- a word that is not 0, and the place of its lowest 1
module _ (x : ℕ) (some : 0 < x) (fits : x < 2 ^ 64) where
  pub lowest-in : trailing_zeros w64 x < 64
  lowest-in = let h = bit_at-trailing_zeros w64 x some fits in h.0

  pub lowest-set : is_bit x (trailing_zeros w64 x) ≡ true
  lowest-set = ap (λ y. eqb y 1) (lowest x some fits).here

  pub below-unset : (i : ℕ) → i < trailing_zeros w64 x → is_bit x i ≡ false
  below-unset i lt = ap (λ y. eqb y 1) ((lowest x some fits).below i lt)

  pub cleared-here : is_bit (bit_and x (x - 1)) (trailing_zeros w64 x) ≡ false
  cleared-here = ap (λ y. eqb y 1) (bit_at_and x (x - 1) (trailing_zeros w64 x) ∙ none x (trailing_zeros w64 x) (lowest x some fits))

  pub cleared-others : (i : ℕ) → i ≢ trailing_zeros w64 x → is_bit (bit_and x (x - 1)) i ≡ is_bit x i
  cleared-others i apart = ap (λ y. eqb y 1) (bit_at_and x (x - 1) i ∙ both x (trailing_zeros w64 x) i (lowest x some fits) apart)

  -- a bit that stays set was set
  pub still-set : (i : ℕ) → is_bit (bit_and x (x - 1)) i ≡ true → is_bit x i ≡ true
  still-set i set =
      ⊎_elim
      (λ (same : i ≡ trailing_zeros w64 x). ap (is_bit x) same ∙ lowest-set)
      (λ (apart : i ≡ trailing_zeros w64 x → ⊥). sym (cleared-others i apart) ∙ set)
      (cases_eq i (trailing_zeros w64 x))

pub less-left : (x : ℕ) → 0 < x → bit_and x (x - 1) < x
less-left x some = omega (arith, and_le_r x (x - 1))
