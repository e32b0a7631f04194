-- Worked examples of the definitions.
use Rattle.std.specs.Prelude.{◌≡◌, true, false, List, ℕ, Bool, codes, refl}
use Rattle.fast_float.specs.Text.{scan}
use Rattle.json_decimals.specs.Decimals.{decimal_of}
use Rattle.json_tolerances.specs.Closeness.{is_within, is_within_part}
use Rattle.json_tolerances.specs.Order.{decimal_less}

abbrev within : List ℕ → List ℕ → List ℕ → Bool
within t s u = is_within (decimal_of t) (decimal_of s) (decimal_of u)

abbrev within_part : List ℕ → List ℕ → List ℕ → Bool
within_part t s u = is_within_part (decimal_of t) (decimal_of s) (decimal_of u)

-- 0.30 and 0.31 lie 0.01 apart
at_most : within (codes "0.01") (codes "0.30") (codes "0.31") ≡ true
unfolding decimal_of scan
at_most = refl

more : within (codes "9.9e-3") (codes "0.30") (codes "0.31") ≡ false
unfolding decimal_of scan
more = refl

-- and within 0.05 times the larger one
part : within_part (codes "0.05") (codes "0.30") (codes "0.31") ≡ true
unfolding decimal_of scan
part = refl

smaller_part : within_part (codes "0.03") (codes "0.30") (codes "0.31") ≡ false
unfolding decimal_of scan
smaller_part = refl

-- 1 and -1 lie 2 apart, which is twice the larger one
over_zero : within (codes "2") (codes "1") (codes "-1") ≡ true
unfolding decimal_of scan
over_zero = refl

twice : within_part (codes "2") (codes "1") (codes "-1") ≡ true
unfolding decimal_of scan
twice = refl

less_than_twice : within_part (codes "1.99") (codes "-1") (codes "1") ≡ false
unfolding decimal_of scan
less_than_twice = refl

-- a float would take these for one number
not_rounded : within (codes "0.9") (codes "9007199254740992") (codes "9007199254740993") ≡ false
unfolding decimal_of scan
not_rounded = refl

-- zero is no more than any part from zero alone
near_zero : within_part (codes "0.5") (codes "0") (codes "1e-9") ≡ false
unfolding decimal_of scan
near_zero = refl

-- ---- order

abbrev less : List ℕ → List ℕ → Bool
less s t = decimal_less (decimal_of s) (decimal_of t)

below : less (codes "12.50") (codes "1.3e1") ≡ true
unfolding decimal_of scan
below = refl

negative_below : less (codes "-2") (codes "0") ≡ true
unfolding decimal_of scan
negative_below = refl

zeros : less (codes "-0") (codes "0") ≡ false
unfolding decimal_of scan
zeros = refl

larger_negative : less (codes "-2") (codes "-1.99") ≡ true
unfolding decimal_of scan
larger_negative = refl
