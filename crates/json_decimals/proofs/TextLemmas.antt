-- The text of a decimal reads back.
use Rattle.std.proofs.Common.{◌≡◌, ℕ, zero, suc, ◌<◌, ◌⊎◌, ◌↔◌, inl, inr, Bool, true, false, cond, ◌==◌, List, [], ◌∷◌, ◌++◌, length, get_or, drop, arith, ap, sym, ◌∙◌, refl, append_assoc, append-nil}
use Rattle.std.proofs.lemmas.Bool.{ne_eqb}
use Rattle.std.proofs.lemmas.Str.Parse.{digit_from_value}
use Rattle.std.specs.Fmt.{sign_text}
use Rattle.std.specs.Str.Parse.{AllDigits, digits_value}
use Rattle.fast_float.proofs.Writing.{scan-text_of}
use Rattle.fast_float.specs.Text.{Parts, scan, text_of, exponent_text, IsWellFormed}
use Rattle.json_decimals.specs.Decimals.{Decimal, AreEqual, IsNormal, worth, normal_of, decimal_of}
use Rattle.json_decimals.specs.Texts.{digits_text, tens_text, number_text, normal_number}
use Rattle.json_decimals.proofs.EqualLemmas.{made, same_fields}
use Rattle.json_decimals.proofs.NormalLemmas.{has_form, forms_tell}
use Rattle.json_decimals.proofs.SpelledLemmas.{digits_text-IsSpelled}

-- ---- the parts of a text

abbrev exponent_digits : ℕ → ℕ → List ℕ
exponent_digits zero zero = []
exponent_digits zero (suc down) = digits_text (suc down)
exponent_digits (suc up) down = digits_text (suc up)

abbrev goes_down : ℕ → ℕ → Bool
goes_down zero zero = false
goes_down zero (suc down) = true
goes_down (suc up) down = false

abbrev bare : ℕ → ℕ → ℕ → ℕ → Parts
bare coefficient up down len = record { whole = digits_text coefficient; point = false; fraction = []; exponent_negative = goes_down up down; exponent = exponent_digits up down; len = len }

abbrev parts : ℕ → ℕ → ℕ → Parts
parts coefficient up down = bare coefficient up down (length (text_of (bare coefficient up down 0)))

with_digits : (negative : Bool) (ds : List ℕ) → 0 < length ds → exponent_text negative ds ≡ 101 ∷ (sign_text negative ++ ds)
with_digits negative [] h = absurd (omega arith)
with_digits negative (d ∷ ds) h = refl

tens_text_is : (up down : ℕ) → exponent_text (goes_down up down) (exponent_digits up down) ≡ tens_text up down
unfolding tens_text
tens_text_is zero zero = refl
tens_text_is zero (suc down) = with_digits true (digits_text (suc down)) (digits_text-IsSpelled (suc down)).some
tens_text_is (suc up) down = with_digits false (digits_text (suc up)) (digits_text-IsSpelled (suc up)).some

exponent_is : (up down : ℕ) → AllDigits 10 (exponent_digits up down)
exponent_is zero zero = tt
exponent_is zero (suc down) = (digits_text-IsSpelled (suc down)).digits
exponent_is (suc up) down = (digits_text-IsSpelled (suc up)).digits

not_empty : (ds : List ℕ) → 0 < length ds → ds ≡ [] → ⊥
not_empty ds h e = omega (arith, ap length e)

goes_up : (up down : ℕ) → exponent_digits up down ≡ [] → goes_down up down ≡ false
goes_up zero zero e = refl
goes_up zero (suc down) e = absurd (not_empty _ (digits_text-IsSpelled (suc down)).some e)
goes_up (suc up) down e = refl

well_formed : (coefficient up down : ℕ) → IsWellFormed (parts coefficient up down)
well_formed coefficient up down = record {
  whole_digits = (digits_text-IsSpelled coefficient).digits;
  fraction_digits = tt;
  exponent_digits = exponent_is up down;
  no_point = λ _. refl;
  no_exponent = goes_up up down;
  len_is = refl;
}

-- ---- reading back

first_digit : (ds rest : List ℕ) → AllDigits 10 ds → 0 < length ds → (get_or (ds ++ rest) 0 0 == 45) ≡ false
first_digit [] rest d some = absurd (omega arith)
first_digit (c ∷ cs) rest d some = let r = digit_from_value c d.0 in ne_eqb c 45 (λ e. omega arith)

read : (negative : Bool) (coefficient up down : ℕ) → decimal_of (sign_text negative ++ text_of (parts coefficient up down)) ≡ worth negative (parts coefficient up down)
unfolding decimal_of
read true coefficient up down = ap (worth true) (scan-text_of (parts coefficient up down) (well_formed coefficient up down))
read false coefficient up down =
    let c = digits_text-IsSpelled coefficient in
    let none = first_digit (digits_text coefficient) (exponent_text (goes_down up down) (exponent_digits up down)) c.digits c.some in
    let t : List ℕ = text_of (parts coefficient up down) in
    ap (λ b. worth b (scan (cond b (drop 1 t) t))) none ∙ ap (worth false) (scan-text_of (parts coefficient up down) (well_formed coefficient up down))

coefficient_is : (n : ℕ) → digits_value 10 (digits_text n ++ []) ≡ n
coefficient_is n = ap (digits_value 10) (append-nil (digits_text n)) ∙ (digits_text-IsSpelled n).value

worth_is : (negative : Bool) (coefficient up down : ℕ) → (up ≡ 0) ⊎ (down ≡ 0) → worth negative (parts coefficient up down) ≡ made negative coefficient up down
worth_is negative coefficient zero zero h = same_fields _ _ refl (coefficient_is coefficient) refl refl
worth_is negative coefficient zero (suc down) h = same_fields _ _ refl (coefficient_is coefficient) refl (omega (arith, (digits_text-IsSpelled (suc down)).value))
worth_is negative coefficient (suc up) down h = same_fields _ _ refl (coefficient_is coefficient) (digits_text-IsSpelled (suc up)).value (omega arith)

number_text_is : (negative : Bool) (coefficient up down : ℕ) → number_text (made negative coefficient up down) ≡ sign_text negative ++ text_of (parts coefficient up down)
unfolding number_text
number_text_is negative coefficient up down =
    append_assoc (sign_text negative) (digits_text coefficient) (tens_text up down) ∙ ap (λ x. sign_text negative ++ (digits_text coefficient ++ x)) (sym (tens_text_is up down))

one_side : (n : Decimal) → IsNormal n → (n.up ≡ 0) ⊎ (n.down ≡ 0)
one_side n (inl z) = inl (ap (λ (m : Decimal). m.up) z)
one_side n (inr t) = t.1

pub reads_back : (n : Decimal) → IsNormal n → decimal_of (number_text n) ≡ n
reads_back n h =
    ap decimal_of (number_text_is n.negative n.coefficient n.up n.down) ∙ read n.negative n.coefficient n.up n.down ∙ worth_is n.negative n.coefficient n.up n.down (one_side n h)

-- ---- normal texts

same_text : (a b : Decimal) → number_text (normal_of a) ≡ number_text (normal_of b) → normal_of a ≡ normal_of b
same_text a b e = sym (reads_back (normal_of a) (has_form a).0) ∙ ap decimal_of e ∙ reads_back (normal_of b) (has_form b).0

pub texts_tell : (s t : List ℕ) → AreEqual (decimal_of s) (decimal_of t) ↔ (normal_number s ≡ normal_number t)
unfolding normal_number
texts_tell s t =
    let told = forms_tell (decimal_of s) (decimal_of t) in
    (λ e. ap number_text (told.0 e), λ e. told.1 (same_text (decimal_of s) (decimal_of t) e))
