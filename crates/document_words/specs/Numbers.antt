-- The values of keys, with numbers as a person writes them.
--
-- The number with the normal text 12e2 is printed as 1200, that with 15e-1 as 1.5, and that with
-- -5e-2 as -0.05. 1e21 and 1e-21 are printed so, since their exponents are past 20.
use Rattle.std.specs.Fmt.{sign_text}
use Rattle.std.specs.Prelude.{ℕ, ◌+◌, ◌-◌, ◌==◌, Bool, ◌&&◌, nat_lt, if◌then◌else◌, List, ◌∷◌}
use Rattle.std.specs.Prelude.{◌++◌, length, take, drop, replicate, codes}
use Rattle.fast_float.specs.Text.{Parts, tens_up, tens_down}
use Rattle.json_decimals.specs.Decimals.{is_negative, parts_of}
use Rattle.json_plain.specs.Plain.{plain_json}

-- a numeral is printed without an exponent: it has digits, none after a point, and at most 20 tens
-- beside them
unfoldable pub is_short : Parts → Bool
is_short p = nat_lt 0 (length p.whole) && (length p.fraction == 0)
    && nat_lt (tens_up p + tens_down p) 21

-- digits with a point, after which this number of them stands; zeros stand before them if there
-- are no more than that
unfoldable pub with_point : List ℕ → ℕ → List ℕ
with_point ds down = if nat_lt down (length ds)
    then take (length ds - down) ds ++ 46 ∷ drop (length ds - down) ds
    else codes "0." ++ replicate (down - length ds) 48 ++ ds

-- digits that are multiplied by ten, or divided by ten, this number of times
unfoldable pub plain_digits : List ℕ → ℕ → ℕ → List ℕ
plain_digits ds up down = if nat_lt 0 down then with_point ds down else ds ++ replicate up 48

-- the printed text of the value with this normal text
unfoldable pub value_text : List ℕ → List ℕ
value_text s = if is_short (parts_of s)
    then sign_text (is_negative s)
    ++ plain_digits (parts_of s).whole (tens_up (parts_of s)) (tens_down (parts_of s))
    else plain_json s
