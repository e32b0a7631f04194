-- Worked examples of the definitions.
use Rattle.std.proofs.Common.{arith}
use Rattle.std.specs.Str.Parse.{digits_value}
use Rattle.std.specs.Prelude.{◌≡◌, ◌^◌, [], ◌∷◌, true, false, codes, refl}
use Rattle.fast_float.specs.Text.{scan}
use Rattle.json.specs.Word.{after_number}
use Rattle.json_decimals.specs.Decimals.{normal_of, decimal_of, parts_of}
use Rattle.json_decimals.specs.Texts.{digits_text, tens_text, number_text, normal_number}
use Rattle.diff_numbers.specs.Cells.{IsWideNumber, comparable, is_number}
use Rattle.diff_numbers.specs.Columns.{number_columns}
use Rattle.diff_numbers.specs.Errors.{IsCellFault}
use Rattle.diff_numbers.specs.Rows.{comparable_row, comparable_rows}
use Rattle.diff_numbers.specs.declared.error.ComparableError.TheVariants.{WideExponent}

-- numbers, as JSON writes them
number-fraction : is_number (codes "12.00") ≡ true
unfolding after_number
number-fraction = refl

number-minus : is_number (codes "-0") ≡ true
unfolding after_number
number-minus = refl

-- and what is none
text-zeros : is_number (codes "007") ≡ false
unfolding after_number
text-zeros = refl

text-plus : is_number (codes "+5") ≡ false
unfolding after_number
text-plus = refl

text-point : is_number (codes ".5") ≡ false
unfolding after_number
text-point = refl

text-hex : is_number (codes "0x1") ≡ false
unfolding after_number
text-hex = refl

text-space : is_number (codes "12 ") ≡ false
unfolding after_number
text-space = refl

-- numbers worth the same are compared by one text
compared-fraction : comparable true (codes "12.00") ≡ codes "12"
unfolding after_number normal_number number_text digits_text tens_text normal_of decimal_of scan
compared-fraction = refl

compared-exponent : comparable true (codes "1.2e1") ≡ codes "12"
unfolding after_number normal_number number_text digits_text tens_text normal_of decimal_of scan
compared-exponent = refl

-- other cells by themselves, and all of them where numbers do not count
compared-zeros : comparable true (codes "007") ≡ codes "007"
unfolding after_number
compared-zeros = refl

compared-text : comparable false (codes "12.00") ≡ codes "12.00"
compared-text = refl

-- of the columns id and amount, where id is compared as text, numbers count in the second alone
second-counts : number_columns (codes "id" ∷ []) (codes "id" ∷ codes "amount" ∷ []) ≡ false ∷ true ∷ []
second-counts = refl

row-by-worth : comparable_row (false ∷ true ∷ []) (codes "7.0" ∷ codes "12.00" ∷ []) ≡ codes "7.0" ∷ codes "12" ∷ []
unfolding after_number normal_number number_text digits_text tens_text normal_of decimal_of scan
row-by-worth = refl

two-rows : comparable_rows (true ∷ []) ((codes "12.00" ∷ []) ∷ (codes "007" ∷ []) ∷ []) ≡ (codes "12" ∷ []) ∷ (codes "007" ∷ []) ∷ []
unfolding after_number normal_number number_text digits_text tens_text normal_of decimal_of scan
two-rows = refl

-- an exponent of 31 digits
wide-exponent : IsWideNumber (codes "1e1000000000000000000000000000000")
unfolding after_number scan
wide-exponent = record { number = refl; wide = let value : digits_value 10 (parts_of (codes "1e1000000000000000000000000000000")).exponent ≡ 10 ^ 30 = refl in omega (arith, value) }

-- is a fault where numbers count in its column
second-is-wide : IsCellFault (false ∷ true ∷ []) ((codes "7" ∷ codes "1e1000000000000000000000000000000" ∷ []) ∷ []) (WideExponent 0 1)
second-is-wide = record { row_within = omega arith; column_within = omega arith; counts = refl; wide = wide-exponent }
