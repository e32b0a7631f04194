-- Numbers whose texts are short.
use Rattle.std.proofs.Common.{◌<◌, ◌≤◌, ◌+◌, ◌-◌, ◌^◌, ℕ, Bool, true, false, cond, List, [], drop, eqb, get_or, length, arith, length-take, length-drop, lit<}
use Rattle.std.proofs.Math.Nat.{pow-le-pow_right}
use Rattle.std.proofs.lemmas.Int.Digits.{digits_value-lt}
use Rattle.std.specs.Float.Numeral.{digits_end, exponent_start, has_exponent, scan_numeral}
use Rattle.std.specs.List.{slice_range}
use Rattle.std.specs.Str.Parse.{digits_value}
use Rattle.fast_float.proofs.Reading.{scan_numeral-AllDigits}
use Rattle.json_decimals.specs.Decimals.{is_negative, unsigned}
use Rattle.json_decimals.specs.Texts.{HasWideExponent}

-- a part of a text is at most as long
part_short : (s : List ℕ) (from to : ℕ) (there : Bool) → length (cond there (slice_range s from to) []) ≤ length s
part_short s from to true = omega (arith, length-take (to - from) (drop from s), length-drop from s)
part_short s from to false = omega arith

-- so is its exponent
exponent_short : (s : List ℕ) → length (scan_numeral s).exponent ≤ length s
unfolding scan_numeral
exponent_short s =
    let a = digits_end s 0 in
    let point = eqb (get_or s a 0) 46 in
    let b = cond point (digits_end s (a + 1)) a in
    part_short s (exponent_start s b) (digits_end s (exponent_start s b)) (has_exponent s b)

-- and what stands after its sign
unsigned_short : (s : List ℕ) (negative : Bool) → length (cond negative (drop 1 s) s) ≤ length s
unsigned_short s true = omega (arith, length-drop 1 s)
unsigned_short s false = omega arith

below : (v p q : ℕ) → v < p → p ≤ q → q ≤ v → ⊥
below v p q low more high = omega arith

-- a text of at most 30 bytes has no exponent of more digits
pub short_narrow : (s : List ℕ) → length s ≤ 30 → ¬ HasWideExponent s
short_narrow s short wide =
    let few : length (scan_numeral (unsigned s)).exponent ≤ 30 = omega (arith, short, exponent_short (unsigned s), unsigned_short s (is_negative s)) in
    below (digits_value 10 (scan_numeral (unsigned s)).exponent) (10 ^ length (scan_numeral (unsigned s)).exponent) (10 ^ 30)
    (digits_value-lt 10 (scan_numeral (unsigned s)).exponent (scan_numeral-AllDigits (unsigned s)).2)
    (pow-le-pow_right (lit< tt) few) wide
