-- The digits of a number that some digits and a power of ten make.
use Rattle.std.proofs.Common.{◌≡◌, ℕ, suc, ◌+◌, ◌-◌, ◌*◌, ◌/◌, ◌%◌, ◌^◌, ◌<◌, ◌≤◌, List, length, get_or, take, drop, min, ⊎_elim, arith, ap, sym, ◌∙◌, length-drop}
use Rattle.std.proofs.Math.Nat.{pow-suc, pow-zero, mul-one, mul-mod_left, one-le-pow, mul-div_cancel, div-div-eq-div-mul, pow-le-pow_right}
use Rattle.std.proofs.lemmas.Bool.{cases_lt}
use Rattle.std.proofs.lemmas.Int.Digits.{digits_value_more, digits_value-lt}
use Rattle.std.proofs.lemmas.List.{take_all, length-take-le}
use Rattle.std.proofs.lemmas.Nat.{pow-add, div-mul-add}
use Rattle.std.proofs.lemmas.Str.{digit_value_digit}
use Rattle.std.proofs.lemmas.Str.Parse.{digit_at}
use Rattle.std.specs.Char.{digit_value}
use Rattle.std.specs.Str.Parse.{AllDigits, digits_value}
use Rattle.fast_float.proofs.Rows.{AllDigits-take, AllDigits-drop, many_more}

pub tens_positive : (n : ℕ) → 0 < 10 ^ n
tens_positive n = omega (arith, one-le-pow n 10 (omega arith))

pub tens_le : (i j : ℕ) → i ≤ j → 10 ^ i ≤ 10 ^ j
tens_le i j h = pow-le-pow_right {n = 10} (omega arith) h

-- ---- a number with tens after it, cut at a place

regroup : (c x y : ℕ) → c * (x * y) ≡ c * x * y
regroup c x y = omega arith

apart : (c t q : ℕ) → q ≤ t → c * 10 ^ t ≡ c * 10 ^ (t - q) * 10 ^ q
apart c t q h =
    let split : t ≡ t - q + q = omega arith in
    ap (λ k. c * 10 ^ k) split ∙ ap (λ x. c * x) (pow-add 10 (t - q) q) ∙ regroup c (10 ^ (t - q)) (10 ^ q)

-- within the tens
pub within_tens : (c t q : ℕ) → q ≤ t → c * 10 ^ t / 10 ^ q ≡ c * 10 ^ (t - q)
within_tens c t q h = ap (λ x. x / 10 ^ q) (apart c t q h) ∙ mul-div_cancel (c * 10 ^ (t - q)) (tens_positive q)

-- above them
pub above_tens : (c t q : ℕ) → t ≤ q → c * 10 ^ t / 10 ^ q ≡ c / 10 ^ (q - t)
above_tens c t q h =
    let split : q ≡ t + (q - t) = omega arith in
    ap (λ k. c * 10 ^ t / 10 ^ k) split ∙ ap (λ x. c * 10 ^ t / x) (pow-add 10 t (q - t)) ∙ sym (div-div-eq-div-mul (c * 10 ^ t) (10 ^ t) (10 ^ (q - t)))
    ∙ ap (λ x. x / 10 ^ (q - t)) (mul-div_cancel c (tens_positive t))

pub none_above : (n p : ℕ) → n < 10 ^ p → n / 10 ^ p ≡ 0
none_above n p h = ap (λ x. x / 10 ^ p) (omega arith) ∙ div-mul-add 0 (10 ^ p) n h

-- ---- digits

-- a place above each digit
pub below_top : (ds : List ℕ) (t : ℕ) → AllDigits 10 ds → digits_value 10 ds * 10 ^ t < 10 ^ (length ds + t)
below_top ds t h =
    let less = digits_value-lt 10 ds h in
    let more : (a b x : ℕ) → a < b → 0 < x → a * x < b * x = λ a b x p q. grind arith in
    let it : digits_value 10 ds * 10 ^ t < 10 ^ length ds * 10 ^ t = more (digits_value 10 ds) (10 ^ length ds) (10 ^ t) less (tens_positive t) in
    let e = pow-add 10 (length ds) t in
    omega (arith, e, it)

only_zeros : (c t place p : ℕ) → place ≤ t → p ≤ place → c * 10 ^ t / 10 ^ p ≡ c * 10 ^ t / 10 ^ place * 10 ^ (place - p)
only_zeros c t place p h l =
    within_tens c t p (omega arith) ∙ ap (λ k. c * 10 ^ k) both ∙ ap (λ x. c * x) (pow-add 10 (t - place) (place - p)) ∙ regroup c (10 ^ (t - place)) (10 ^ (place - p))
    ∙ ap (λ x. x * 10 ^ (place - p)) (sym (within_tens c t place h))
  where
    both : t - p ≡ t - place + (place - p)
    both = omega arith

at_once : (n p : ℕ) → n / 10 ^ p ≡ n / 10 ^ p * 10 ^ (p - p)
at_once n p =
    let none : p - p ≡ 0 = omega arith in
    sym (ap (λ k. n / 10 ^ p * 10 ^ k) none ∙ ap (λ x. n / 10 ^ p * x) (pow-zero 10) ∙ mul-one (n / 10 ^ p))

all_above : (n q place p : ℕ) → n < 10 ^ q → q ≤ p → p ≤ place → n / 10 ^ p ≡ n / 10 ^ place * 10 ^ (place - p)
all_above n q place p h a l =
    let here = tens_le q p a in
    let there = tens_le q place (omega arith) in
    let times : 0 * 10 ^ (place - p) ≡ 0 = omega arith in
    none_above n p (omega (arith, here)) ∙ sym (ap (λ x. x * 10 ^ (place - p)) (none_above n place (omega (arith, there))) ∙ times)

-- from the end of the digits, or from this place, there are only zeros up to this place
pub zeros_up : (ds : List ℕ) (t place p : ℕ) → AllDigits 10 ds → min place (length ds + t) ≤ p → p ≤ place
    → digits_value 10 ds * 10 ^ t / 10 ^ p ≡ digits_value 10 ds * 10 ^ t / 10 ^ place * 10 ^ (place - p)
zeros_up ds t place p d h l =
    let n : ℕ = digits_value 10 ds * 10 ^ t in
    ⊎_elim (λ (less : p < place). all_above n (length ds + t) place p (below_top ds t d) (omega arith) l)
    (λ (more : place ≤ p). (let same : p ≡ place = omega arith in ap (λ k. n / 10 ^ k) same ∙ at_once n place ∙ ap (λ k. n / 10 ^ place * 10 ^ (place - k)) (sym same))) (cases_lt p place)

pub zeros_within : (ds : List ℕ) (t place p : ℕ) → place ≤ t → p ≤ place → digits_value 10 ds * 10 ^ t / 10 ^ p ≡ digits_value 10 ds * 10 ^ t / 10 ^ place * 10 ^ (place - p)
zeros_within ds t place p h l = only_zeros (digits_value 10 ds) t place p h l

-- the digit at a place within the tens is 0
pub digit_within : (c t place : ℕ) → place < t → 0 ≡ c * 10 ^ t / 10 ^ place % 10
digit_within c t place h =
    let k : ℕ = t - place - 1 in
    let split : t - place ≡ suc k = omega arith in
    sym (ap (λ x. x % 10) (within_tens c t place (omega arith) ∙ ap (λ j. c * 10 ^ j) split ∙ ap (λ x. c * x) (pow-suc 10 k) ∙ regroup c (10 ^ k) 10) ∙ mul-mod_left (c * 10 ^ k) 10)

-- and so is that at a place before the digits
pub digit_before : (ds : List ℕ) (t place : ℕ) → AllDigits 10 ds → t ≤ place → length ds ≤ place - t → 0 ≡ digits_value 10 ds * 10 ^ t / 10 ^ place % 10
digit_before ds t place d h l =
    let less = digits_value-lt 10 ds d in
    let more = tens_le (length ds) (place - t) l in
    sym (ap (λ x. x % 10) (above_tens (digits_value 10 ds) t place h ∙ none_above (digits_value 10 ds) (place - t) (omega (arith, less, more))))

front_is : (ds : List ℕ) (j : ℕ) → AllDigits 10 ds → j < length ds → digits_value 10 ds / 10 ^ j ≡ digits_value 10 (take (length ds - j) ds)
front_is ds j d h =
    let i : ℕ = length ds - j in
    let all : i + j ≡ length ds = omega arith in
    let whole : digits_value 10 ds ≡ digits_value 10 (take i ds) * 10 ^ j + digits_value 10 (take j (drop i ds)) = ap (digits_value 10) (sym (take_all (i + j) ds (omega arith))) ∙ many_more ds i j (omega arith) in
    let long : length (take j (drop i ds)) ≡ j = length-take-le j (drop i ds) (omega (arith, length-drop i ds)) in
    let rest : digits_value 10 (take j (drop i ds)) < 10 ^ j = omega (arith, digits_value-lt 10 (take j (drop i ds)) (AllDigits-take j (drop i ds) (AllDigits-drop i ds d)), ap (λ k. 10 ^ k) long) in
    ap (λ x. x / 10 ^ j) whole ∙ div-mul-add (digits_value 10 (take i ds)) (10 ^ j) (digits_value 10 (take j (drop i ds))) rest

-- the digit at a place where there is one
pub digit_here : (ds : List ℕ) (t place i : ℕ) → AllDigits 10 ds → t ≤ place → place - t < length ds → i ≡ length ds - 1 - (place - t) → get_or ds i 0 - 48 ≡ digits_value 10 ds * 10 ^ t / 10 ^ place % 10
digit_here ds t place i d h l e =
    let up : length ds - (place - t) ≡ i + 1 = omega arith in
    let value = digit_value_digit (get_or ds i 0) (digit_at ds i d (omega arith)) in
    let range = digit_at ds i d (omega arith) in
    let cut = above_tens (digits_value 10 ds) t place h ∙ front_is ds (place - t) d l ∙ ap (λ k. digits_value 10 (take k ds)) up ∙ digits_value_more 10 ds i (omega arith) in
    let last : (a b : ℕ) → b < 10 → (a * 10 + b) % 10 ≡ b = λ a b p. omega arith in
    sym (ap (λ x. x % 10) cut ∙ last (digits_value 10 (take i ds)) (digit_value (get_or ds i 0)) (omega (arith, value, range)) ∙ omega (arith, value, range))
