-- Worked examples of the definitions.
use Rattle.std.specs.Prelude.{◌≡◌, true, codes, refl}
use Rattle.fast_float.specs.Text.{scan}
use Rattle.json_decimals.specs.Decimals.{normal_of, decimal_of}
use Rattle.json_decimals.specs.Texts.{digits_text, tens_text, number_text, normal_number}
use Rattle.json_decimals.proofs.EqualLemmas.{made}

-- what a numeral writes
written : decimal_of (codes "-1500.0e-2") ≡ made true 15000 0 3
unfolding decimal_of scan
written = refl

-- and its normal form
normal : normal_of (made true 15000 0 3) ≡ made true 15 0 0
unfolding normal_of
normal = refl

-- one number in four ways
whole : normal_number (codes "1") ≡ codes "1"
unfolding normal_number number_text digits_text tens_text normal_of decimal_of scan
whole = refl

with_point : normal_number (codes "1.0") ≡ codes "1"
unfolding normal_number number_text digits_text tens_text normal_of decimal_of scan
with_point = refl

with_tens : normal_number (codes "10E-1") ≡ codes "1"
unfolding normal_number number_text digits_text tens_text normal_of decimal_of scan
with_tens = refl

with_both : normal_number (codes "0.1e+1") ≡ codes "1"
unfolding normal_number number_text digits_text tens_text normal_of decimal_of scan
with_both = refl

-- zero has no sign
zero : normal_number (codes "-0.00e7") ≡ codes "0"
unfolding normal_number number_text digits_text tens_text normal_of decimal_of scan
zero = refl

-- zeros after the digits are tens
hundreds : normal_number (codes "1200") ≡ codes "12e2"
unfolding normal_number number_text digits_text tens_text normal_of decimal_of scan
hundreds = refl

-- and so are those after the point
hundredths : normal_number (codes "-0.05") ≡ codes "-5e-2"
unfolding normal_number number_text digits_text tens_text normal_of decimal_of scan
hundredths = refl
