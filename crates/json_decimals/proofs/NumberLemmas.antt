-- The normal text of a number, from the digits and the tens of its text.
use Rattle.std.proofs.Common.{◌≡◌, ℕ, ◌+◌, ◌-◌, ◌≤◌, ◌<◌, List, [], ◌∷◌, ◌++◌, length, slice_range, ap, ◌∙◌, refl, append_assoc}
use Rattle.std.specs.Fmt.{sign_text}
use Rattle.std.specs.Str.Parse.{AllDigits, digits_value}
use Rattle.fast_float.proofs.Reading.{scan_numeral-AllDigits}
use Rattle.fast_float.proofs.Rows.{AllDigits-append}
use Rattle.fast_float.specs.Text.{scan, tens_up, tens_down}
use Rattle.json_decimals.specs.Decimals.{Decimal, zero_decimal, worth, shifted, is_negative, parts_of, decimal_of}
use Rattle.json_decimals.specs.Ranges.{IsStart, IsEnd}
use Rattle.json_decimals.specs.Texts.{digits_text, tens_text, number_text, normal_number}
use Rattle.json_decimals.proofs.NormalLemmas.{of_zero, is_form}
use Rattle.json_decimals.proofs.RangeLemmas.{kept_is, none_left}
use Rattle.json_decimals.proofs.SpelledLemmas.{text_of_zero}
use Rattle.json_decimals.proofs.TensLemmas.{text_of_none}

abbrev pub digits : List ℕ → List ℕ
digits s = (parts_of s).whole ++ (parts_of s).fraction

all_digits : (bs : List ℕ) → AllDigits 10 ((scan bs).whole ++ (scan bs).fraction)
all_digits bs = let d = scan_numeral-AllDigits bs in AllDigits-append _ _ d.0 d.1

zero_text : number_text zero_decimal ≡ 48 ∷ []
unfolding number_text
zero_text = ap (λ x. x ++ tens_text 0 0) text_of_zero ∙ ap (λ x. 48 ∷ x) (text_of_none 0 0 refl refl)

pub text_of_zeros : (s : List ℕ) (from to : ℕ) → IsStart (digits s) from → IsEnd (digits s) to → to ≤ from → normal_number s ≡ 48 ∷ []
unfolding normal_number decimal_of
text_of_zeros s from to p q h = ap number_text (of_zero (worth (is_negative s) (parts_of s)) (none_left (digits s) from to p q h)) ∙ zero_text

shifted_text : (a : Decimal) (b t : ℕ) → number_text (shifted a b t) ≡ (sign_text a.negative ++ digits_text b) ++ tens_text (a.up + t - a.down) (a.down - (a.up + t))
unfolding number_text
shifted_text a b t = refl

pub text_of_kept : (s : List ℕ) (from to : ℕ) → IsStart (digits s) from → IsEnd (digits s) to → from < to
    → let p = parts_of s in let t = length (digits s) - to in
    normal_number s ≡ (sign_text (is_negative s) ++ slice_range (digits s) from to) ++ tens_text (tens_up p + t - tens_down p) (tens_down p - (tens_up p + t))
unfolding normal_number decimal_of
text_of_kept s from to p q h =
    let kept = kept_is (digits s) from to (all_digits _) p q h in
    let a : Decimal = worth (is_negative s) (parts_of s) in
    let b : ℕ = digits_value 10 (slice_range (digits s) from to) in
    let t : ℕ = length (digits s) - to in
    ap number_text (is_form a b t kept.stripped) ∙ shifted_text a b t ∙ ap (λ x. (sign_text a.negative ++ x) ++ tens_text (a.up + t - a.down) (a.down - (a.up + t))) kept.text

-- the pieces after what stood there before
pub pieces : (old a b c : List ℕ) → ((old ++ a) ++ b) ++ c ≡ old ++ ((a ++ b) ++ c)
pieces old a b c = simp append_assoc
