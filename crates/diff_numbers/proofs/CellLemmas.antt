-- Cells that are numbers, and what they are compared by.
use Rattle.std.proofs.Common.{◌≡◌, ◌∙◌, ◌↔◌, ◌⊎◌, inl, inr, ℕ, Bool, true, false, IsUtf8, List, [], ◌∷◌, Option, Some, None, ap, sym, subst, refl, cond}
use Rattle.json.specs.Print.{IsNumber}
use Rattle.json.specs.Word.{after_number}
use Rattle.json_decimals.proofs.TextLemmas.{texts_tell}
use Rattle.json_decimals.specs.Decimals.{AreEqual, decimal_of}
use Rattle.json_decimals.specs.Texts.{normal_number}
use Rattle.json_normal.proofs.WrittenLemmas.{IsNumber-normal_number}
use Rattle.std.proofs.lemmas.Bool.{false_from_ne_true}
use Rattle.diff_numbers.proofs.AsciiLemmas.{IsUtf8-number}
use Rattle.diff_numbers.specs.Cells.{comparable, is_end, is_number}
use Rattle.diff_numbers.specs.Laws.{AreEqualNumbers}

end_from : (o : Option (List ℕ)) → o ≡ Some [] → is_end o ≡ true
end_from None e = absurd (cc)
end_from (Some []) e = refl
end_from (Some (b ∷ rest)) e = absurd (cc)

end_is : (o : Option (List ℕ)) → is_end o ≡ true → o ≡ Some []
end_is None e = absurd (cc)
end_is (Some []) e = refl
end_is (Some (b ∷ rest)) e = absurd (cc)

-- the test is the grammar's
pub number_tested : (s : List ℕ) → IsNumber s → is_number s ≡ true
number_tested s h = end_from (after_number s) h

pub number_is : (s : List ℕ) → is_number s ≡ true → IsNumber s
number_is s h = end_is (after_number s) h

-- where numbers count, a number is compared by its normal text
pub number_compared : (s : List ℕ) → is_number s ≡ true → comparable true s ≡ normal_number s
number_compared s e = ap (λ b. cond b (normal_number s) s) e

-- and a text by itself
pub text_compared : (s : List ℕ) → is_number s ≡ false → comparable true s ≡ s
text_compared s e = ap (λ b. cond b (normal_number s) s) e

-- a normal text is no text that is no number
apart : (s t : List ℕ) → is_number t ≡ false → normal_number s ≡ t → ⊥
apart s t other e =
    let clash : true ≡ false = sym (number_tested (normal_number s) (IsNumber-normal_number s)) ∙ (ap is_number e ∙ other) in
    cc

cells_by : (s t : List ℕ) (a b : Bool) → is_number s ≡ a → is_number t ≡ b → comparable true s ≡ comparable true t → (s ≡ t) ⊎ AreEqualNumbers s t
cells_by s t true true p q e = inr (number_is s p, number_is t q, (texts_tell s t).1 (sym (number_compared s p) ∙ (e ∙ number_compared t q)))
cells_by s t true false p q e = absurd (apart s t q (sym (number_compared s p) ∙ (e ∙ text_compared t q)))
cells_by s t false true p q e = absurd (apart t s p (sym (number_compared t q) ∙ (sym e ∙ text_compared s p)))
cells_by s t false false p q e = inl (sym (text_compared s p) ∙ (e ∙ text_compared t q))

equal_numbers : (s t : List ℕ) → IsNumber s → IsNumber t → AreEqual (decimal_of s) (decimal_of t) → comparable true s ≡ comparable true t
equal_numbers s t p q e = number_compared s (number_tested s p) ∙ ((texts_tell s t).0 e ∙ sym (number_compared t (number_tested t q)))

-- two cells are compared as the same where they are one text, or numbers worth the same
pub cells_tell : (s t : List ℕ) → (comparable true s ≡ comparable true t) ↔ ((s ≡ t) ⊎ AreEqualNumbers s t)
cells_tell s t = (
  cells_by s t (is_number s) (is_number t) refl refl,
  λ h. elim h [
    | inl same ↦ ap (comparable true) same
    | inr equal ↦ equal_numbers s t equal.0 equal.1 equal.2
  ],
)

pub numbers_tell : (s t : List ℕ) → IsNumber s → IsNumber t → (comparable true s ≡ comparable true t) ↔ AreEqual (decimal_of s) (decimal_of t)
numbers_tell s t p q = (
  λ e. (texts_tell s t).1 (sym (number_compared s (number_tested s p)) ∙ (e ∙ number_compared t (number_tested t q))),
  equal_numbers s t p q,
)

-- what is no UTF-8 is no number
pub number_not : (s : List ℕ) → (IsUtf8 s → ⊥) → is_number s ≡ false
number_not s none = false_from_ne_true (is_number s) (λ e. none (IsUtf8-number s (number_is s e)))
