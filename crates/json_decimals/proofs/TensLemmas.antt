-- The texts of exponents, and the bound of what is read.
use Rattle.std.proofs.Common.{◌≡◌, ℕ, zero, suc, ◌+◌, ◌*◌, ◌^◌, ◌<◌, ◌≤◌, List, [], ◌∷◌, length, take, arith, ap, sym, refl}
use Rattle.std.proofs.lemmas.Int.Digits.{digits_value_more}
use Rattle.std.proofs.lemmas.Str.Parse.{digits_value-take-le}
use Rattle.std.specs.Fmt.{decimal}
use Rattle.std.specs.Str.Parse.{digits_value}
use Rattle.json_decimals.proofs.SpelledLemmas.{decimal-digits_text}
use Rattle.json_decimals.specs.Texts.{tens_text}

pub text_of_none : (up down : ℕ) → up ≡ 0 → down ≡ 0 → tens_text up down ≡ []
unfolding tens_text
text_of_none zero zero p q = refl
text_of_none zero (suc down) p q = absurd (omega arith)
text_of_none (suc up) down p q = absurd (omega arith)

pub text_of_up : (up down : ℕ) → 0 < up → up < 10 ^ 64 → tens_text up down ≡ 101 ∷ decimal up
unfolding tens_text
text_of_up zero down p q = absurd (omega arith)
text_of_up (suc up) down p q = ap (λ x. 101 ∷ x) (sym (decimal-digits_text (suc up) p q))

pub text_of_down : (up down : ℕ) → up ≡ 0 → 0 < down → down < 10 ^ 64 → tens_text up down ≡ 101 ∷ 45 ∷ decimal down
unfolding tens_text
text_of_down zero zero p q r = absurd (omega arith)
text_of_down zero (suc down) p q r = ap (λ x. 101 ∷ 45 ∷ x) (sym (decimal-digits_text (suc down) q r))
text_of_down (suc up) down p q r = absurd (omega arith)

-- a digit more makes a number ten times as large, or larger
pub ten_times : (ds : List ℕ) (i : ℕ) → i < length ds → digits_value 10 (take i ds) * 10 ≤ digits_value 10 ds
ten_times ds i h = omega (arith, digits_value_more 10 ds i h, digits_value-take-le 10 ds (i + 1) (omega arith))
