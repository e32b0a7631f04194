-- Worked examples of the definitions.
use Rattle.std.specs.Prelude.{◌≡◌, true, false, [], ◌∷◌, codes, refl}
use Rattle.std.specs.Str.{bytes_eq}
use Rattle.fast_float.specs.Text.{scan}
use Rattle.json_decimals.specs.Decimals.{decimal_of}
use Rattle.schema_values.specs.Distinct.{distinct_total}
use Rattle.schema_values.specs.Numbers.{better, number_less, same_number}

-- two strings differ
strings-differ : distinct_total bytes_eq (codes "7" ∷ codes "07" ∷ codes "7" ∷ []) ≡ 2
strings-differ = refl

-- three numbers differ
numbers-differ : distinct_total same_number (codes "1.0" ∷ codes "-2" ∷ codes "1e0" ∷ codes "0.5" ∷ []) ≡ 3
unfolding decimal_of scan
numbers-differ = refl

one-number : same_number (codes "1.0") (codes "10e-1") ≡ true
unfolding decimal_of scan
one-number = refl

less-number : number_less (codes "-2") (codes "0.5") ≡ true
unfolding decimal_of scan
less-number = refl

not-greater : better true (codes "1e0") (codes "1.0") ≡ false
unfolding decimal_of scan
not-greater = refl
