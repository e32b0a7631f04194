-- The digits of numbers of any size, as texts.
use Rattle.std.proofs.Common.{◌≡◌, ◌≢◌, ℕ, zero, suc, ◌+◌, ◌*◌, ◌^◌, ◌/◌, ◌%◌, ◌<◌, List, [], ◌∷◌, ◌++◌, length, get_or, map, cond, Bool, true, false, ◌==◌, arith, ap, sym, ◌∙◌, subst, refl, append_assoc, append-nil}
use Rattle.std.proofs.lemmas.Bool.{eqb-true}
use Rattle.std.proofs.lemmas.Fmt.{decimal_by_steps_wide}
use Rattle.std.proofs.lemmas.Int.Digits.{digits_of_step, number_digits_of, all_below_base_digits_of, first_digits_of, digits_value_is}
use Rattle.std.proofs.lemmas.List.{map_push}
use Rattle.std.proofs.lemmas.Str.{digit_value_digit}
use Rattle.std.proofs.lemmas.Str.Parse.{digit_from_value}
use Rattle.std.specs.Char.{digit_value}
use Rattle.std.specs.Fmt.{decimal}
use Rattle.std.specs.Int.Digits.{digits_of, AllBelowBase, number_from_digits}
use Rattle.std.specs.Str.Parse.{digits_value, digits_value_after, AllDigits}
use Rattle.json_decimals.specs.Texts.{digits_text}

-- the digits of a number, and none of 0
abbrev spelled : ℕ → List ℕ
spelled n = map (λ d. 48 + d) (digits_of 10 n)

spelled_step : (n : ℕ) → 0 < n → spelled n ≡ spelled (n / 10) ++ (48 + n % 10) ∷ []
spelled_step n h = ap (map (λ d. 48 + d)) (digits_of_step 10 n (omega arith) h) ∙ map_push (λ d. 48 + d) (digits_of 10 (n / 10)) (n % 10)

spelled_digit : (n : ℕ) → 0 < n → n < 10 → spelled n ≡ (48 + n) ∷ []
spelled_digit n h l =
    let none : n / 10 ≡ 0 = omega arith in
    let last : n % 10 ≡ n = omega arith in
    spelled_step n h ∙ (λ i. spelled (none i) ++ (48 + last i) ∷ [])

pub text_of_zero : digits_text 0 ≡ 48 ∷ []
unfolding digits_text
text_of_zero = refl

pub text_of_some : (n : ℕ) → 0 < n → digits_text n ≡ spelled n
unfolding digits_text
text_of_some n h = ap (λ b. cond b (48 ∷ []) (spelled n)) (none (n == 0) refl)
  where
    none : (b : Bool) → (n == 0) ≡ b → b ≡ false
    none true e = absurd (omega (arith, eqb-true n 0 e))
    none false e = refl

-- ---- digits, and the number that they write

spelled_after : (n : ℕ) (ds : List ℕ) → 0 < n → AllDigits 10 ds → spelled (digits_value_after 10 n ds) ≡ spelled n ++ ds
spelled_after n [] some d = sym (append-nil (spelled n))
spelled_after n (c ∷ cs) some d =
    let m : ℕ = n * 10 + digit_value c in
    let k = digit_value_digit c (digit_from_value c d.0) in
    let front : m / 10 ≡ n = omega (arith, d.0) in
    let end : 48 + m % 10 ≡ c = omega (arith, d.0) in
    spelled_after m cs (omega arith) d.1 ∙ ap (λ x. x ++ cs) (spelled_step m (omega arith) ∙ (λ i. spelled (front i) ++ end i ∷ [])) ∙ append_assoc (spelled n) (c ∷ []) cs

some_after : (n : ℕ) (ds : List ℕ) → 0 < n → 0 < digits_value_after 10 n ds
some_after n [] h = h
some_after n (c ∷ cs) h = some_after (n * 10 + digit_value c) cs (omega arith)

-- digits that do not begin with 0 are those of their number
pub digits_text-digits_value : (ds : List ℕ) → AllDigits 10 ds → 0 < length ds → get_or ds 0 0 ≢ 48 → (digits_text (digits_value 10 ds) ≡ ds) × (0 < digits_value 10 ds)
digits_text-digits_value [] d some first = absurd (omega arith)
digits_text-digits_value (c ∷ cs) d some first =
    let k = digit_value_digit c (digit_from_value c d.0) in
    let r = digit_from_value c d.0 in
    let n : ℕ = 0 * 10 + digit_value c in
    let is : 48 + n ≡ c = omega arith in
    let above : 0 < n = omega arith in
    let more : 0 < digits_value_after 10 n cs = some_after n cs above in
    (text_of_some (digits_value_after 10 n cs) more ∙ spelled_after n cs above d.1 ∙ ap (λ x. x ++ cs) (spelled_digit n above (omega (arith, d.0)) ∙ ap (λ x. x ∷ []) is), more)

digit_of : (d : ℕ) → d < 10 → digit_value (48 + d) ≡ d
digit_of d h = omega (arith, digit_value_digit (48 + d) (omega arith, omega arith))

read_back : (ds : List ℕ) → AllBelowBase 10 ds → (map digit_value (map (λ d. 48 + d) ds) ≡ ds) × AllDigits 10 (map (λ d. 48 + d) ds)
read_back [] h = (refl, tt)
read_back (d ∷ ds) h = let more = read_back ds h.1 in ((λ i. digit_of d h.0 i ∷ more.0 i), (omega (arith, digit_of d h.0, h.0), more.1))

value_of_spelled : (n : ℕ) → (digits_value 10 (spelled n) ≡ n) × AllDigits 10 (spelled n)
value_of_spelled n =
    let back = read_back (digits_of 10 n) (all_below_base_digits_of 10 n (omega arith)) in
    (digits_value_is 10 (spelled n) ∙ ap (number_from_digits 10) back.0 ∙ number_digits_of 10 n (omega arith), back.1)

spelled_first : (n : ℕ) → 0 < n → (0 < length (spelled n)) × (48 < get_or (spelled n) 0 0)
spelled_first n h = first (digits_of 10 n) (first_digits_of 10 n (omega arith) h)
  where
    first : (ds : List ℕ) → 0 < get_or ds 0 0 → (0 < length (map (λ d. 48 + d) ds)) × (48 < get_or (map (λ d. 48 + d) ds) 0 0)
    first [] p = absurd (omega arith)
    first (d ∷ ds) p = (omega arith, omega arith)

-- the digits of a number: a numeral that reads back, and begins with 0 for 0 alone
pub record IsSpelled (n : ℕ) (ds : List ℕ) : Type 0 where
  pub value : digits_value 10 ds ≡ n
  pub digits : AllDigits 10 ds
  pub some : 0 < length ds
  pub first : 0 < n → 48 < get_or ds 0 0
  pub zero_is : n ≡ 0 → ds ≡ 48 ∷ []

pub digits_text-IsSpelled : (n : ℕ) → IsSpelled n (digits_text n)
digits_text-IsSpelled zero = subst (IsSpelled 0) (sym text_of_zero) (record { value = refl; digits = (omega arith, tt); some = omega arith; first = λ h. absurd (omega arith); zero_is = λ _. refl })
digits_text-IsSpelled (suc n) =
    let back = value_of_spelled (suc n) in
    let front = spelled_first (suc n) (omega arith) in
    subst (IsSpelled (suc n)) (sym (text_of_some (suc n) (omega arith))) (record { value = back.0; digits = back.1; some = front.0; first = λ _. front.1; zero_is = λ z. absurd (omega arith) })

-- what `{}` writes, for numbers of up to 64 digits
pub decimal-digits_text : (n : ℕ) → 0 < n → n < 10 ^ 64 → decimal n ≡ digits_text n
decimal-digits_text n some small = by n small some ∙ sym (text_of_some n some)
  where
    by : (m : ℕ) → m < 10 ^ 64 → 0 < m → decimal m ≡ spelled m
    by = decimal_by_steps_wide (λ m ds. 0 < m → ds ≡ spelled m) (λ m l a. sym (spelled_digit m a l))
        (λ m ds l h a. ap (λ x. x ++ (48 + m % 10) ∷ []) (h (omega arith)) ∙ sym (spelled_step m a))
