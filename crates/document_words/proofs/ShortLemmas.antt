-- Which numerals are printed without an exponent.
use Rattle.std.proofs.Common.{◌≡◌, ℕ, ◌+◌, ◌^◌, ◌<◌, ◌≤◌, Bool, true, false, cond, ◌&&◌, nat_lt, ◌==◌, length, arith, refl}
use Rattle.std.proofs.lemmas.Bool.Decides.{nat_tests}
use Rattle.std.specs.Str.Parse.{digits_value}
use Rattle.fast_float.specs.Text.{Parts, tens_up, tens_down}
use Rattle.document_words.specs.Numbers.{is_short}

abbrev test : ℕ → ℕ → ℕ → Bool
test whole fraction tens = nat_lt 0 whole && (fraction == 0) && nat_lt tens 21

no_digits : (whole fraction tens : ℕ) → whole ≡ 0 → test whole fraction tens ≡ false
no_digits whole fraction tens e = grind (arith, nat_tests)

with_fraction : (whole fraction tens : ℕ) → 0 < fraction → test whole fraction tens ≡ false
with_fraction whole fraction tens h = grind (arith, nat_tests)

many_tens : (whole fraction tens : ℕ) → 20 < tens → test whole fraction tens ≡ false
many_tens whole fraction tens h = grind (arith, nat_tests)

few_tens : (whole fraction tens : ℕ) → 0 < whole → fraction ≡ 0 → tens ≤ 20 → test whole fraction tens ≡ true
few_tens whole fraction tens some none h = grind (arith, nat_tests)

pub empty-long : (p : Parts) → length p.whole ≡ 0 → is_short p ≡ false
unfolding is_short
empty-long p e = no_digits (length p.whole) (length p.fraction) (tens_up p + tens_down p) e

pub fraction-long : (p : Parts) → 0 < length p.fraction → is_short p ≡ false
unfolding is_short
fraction-long p h = with_fraction (length p.whole) (length p.fraction) (tens_up p + tens_down p) h

pub tens-long : (p : Parts) → 20 < tens_up p + tens_down p → is_short p ≡ false
unfolding is_short
tens-long p h = many_tens (length p.whole) (length p.fraction) (tens_up p + tens_down p) h

pub tens-short : (p : Parts) → 0 < length p.whole → length p.fraction ≡ 0 → tens_up p + tens_down p ≤ 20 → is_short p ≡ true
unfolding is_short
tens-short p some none h = few_tens (length p.whole) (length p.fraction) (tens_up p + tens_down p) some none h

told : (whole fraction tens : ℕ) → test whole fraction tens ≡ true → (0 < whole) × (fraction ≡ 0)
told whole fraction tens h = (grind (arith, nat_tests), grind (arith, nat_tests))

-- the digits of a short numeral
pub short-digits : (p : Parts) → is_short p ≡ true → (0 < length p.whole) × (length p.fraction ≡ 0)
unfolding is_short
short-digits p h = told (length p.whole) (length p.fraction) (tens_up p + tens_down p) h

beside : (negative : Bool) (fraction exponent : ℕ) → 20 < exponent → 20 < cond negative 0 exponent + (fraction + cond negative exponent 0)
beside true fraction exponent h = omega arith
beside false fraction exponent h = omega arith

-- a wide exponent has more tens
pub wide-long : (p : Parts) → 10 ^ 30 ≤ digits_value 10 p.exponent → is_short p ≡ false
wide-long p h = tens-long p (beside p.exponent_negative (length p.fraction) (digits_value 10 p.exponent) (omega (arith, h)))

positive : (n : ℕ) (b : Bool) → false ≡ b → b ≡ (n == 0) → 0 < n
positive n b e is = grind (arith, nat_tests)

-- a slice that is not empty
pub some-length : (n : ℕ) → false ≡ (n == 0) → 0 < n
some-length n e = positive n (n == 0) e refl
