-- The bits of rows, their counts, and bitwise reductions of rows.
use Rattle.std.specs.Prelude.{◌≡◌, ◌%◌, ◌^◌, ℕ, ℤ, pos, Bool, cond, eqb, true, false, List, [], ◌∷◌}
use Rattle.std.specs.Prelude.{map, reverse, get_or, count_by, unsigned_abs, Option, Some, None}
use Rattle.std.specs.Int.{int_rem_euclid}
use Rattle.std.specs.List.{prefix_len}
use Rattle.polars_arrays_flat.specs.ArrayRows.{is_null, number_rows}
use Rattle.polars_arrays_flat.specs.Numbers.{Numbers}
use Rattle.polars_arrays_flat.specs.Row.{Row, Null, Int, Truth}
use Rattle.polars_compute_reductions.specs.Folds.{none_present}
use Rattle.polars_arrays_numbers.specs.Wrapping.{wrapped}
use Rattle.polars_arrays_words.specs.Bits.{first_of, is_bit}

-- the natural number below 2^width that is congruent to n modulo 2^width
abbrev pub pattern : ℕ → ℤ → ℕ
pattern width n = unsigned_abs (int_rem_euclid n (pos (2 ^ width)))

-- the bits of a whole number in two's complement, the lowest first
abbrev pub number_bits : ℕ → ℤ → List Bool
number_bits width n = first_of (is_bit (pattern width n)) width

-- the bits of a row: `width` bits of a number, one of a truth value, none of any other row
abbrev pub row_bits : ℕ → Row → List Bool
row_bits width (Int n) = number_bits width n
row_bits width (Truth b) = b ∷ []
row_bits width row = []

-- the number of bits from the lowest on that pass a test, up to the first that does not
abbrev pub trailing_run : (Bool → Bool) → List Bool → ℕ
trailing_run test bits = prefix_len test bits

-- the number of bits from the highest down that pass a test, up to the first that does not
abbrev pub leading_run : (Bool → Bool) → List Bool → ℕ
leading_run test bits = prefix_len test (reverse bits)

-- a count of a row's bits; null stays null
abbrev pub counted : (List Bool → ℕ) → ℕ → Row → Row
counted count width Null = Null
counted count width row = Int (pos (count (row_bits width row)))

-- bit i of each present row
abbrev pub place_bits : ℕ → ℕ → List Row → List Bool
place_bits width i [] = []
place_bits width i (row ∷ rows) =
    cond (is_null row) (place_bits width i rows)
    (get_or (row_bits width row) i false ∷ place_bits width i rows)

-- bit i is the test of bit i of all present rows; None if no row is present
abbrev pub reduced : (List Bool → Bool) → ℕ → List Row → Option (List Bool)
reduced test width rows =
    cond (none_present rows) None (Some (first_of (λ i. test (place_bits width i rows)) width))

-- true if an odd number of bits are 1
abbrev pub is_odd : List Bool → Bool
is_odd bits = eqb (count_by (λ b. b) bits % 2) 1

-- two numbers joined by an operator on their bits
abbrev pub joined_bits : (ℕ → ℕ → ℕ) → ℤ → ℕ → ℤ → ℤ → ℤ
joined_bits operator least width a b =
    wrapped least width (pos (operator (pattern width a) (pattern width b)))

-- an array has the counts of rows
abbrev pub AreCounts : (List Bool → ℕ) → ℕ → List Row → Numbers ℕ → Type 0
AreCounts count width rows counts = number_rows (λ n. pos n) counts ≡ map (counted count width) rows

-- the number of ones of a truth value if the first argument is true, else of zeros
abbrev pub truth_count : Bool → Bool → ℕ
truth_count true b = cond b 1 0
truth_count false b = cond b 0 1
