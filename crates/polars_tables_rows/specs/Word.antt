-- The words of a line, and their rows.
use Rattle.std.specs.Prelude.{ℕ, ℤ, pos, negsuc, Bool, true, false, not, ◌&&◌, ◌==◌, ◌-◌, ◌^◌}
use Rattle.std.specs.Prelude.{nat_lt, if◌then◌else◌, List, [], ◌∷◌, length, map, filter, codes}
use Rattle.std.specs.Prelude.{Option, None, Some, option_map}
use Rattle.std.specs.List.{slice_split}
use Rattle.std.specs.Str.{bytes_eq, all_ascii_digits}
use Rattle.std.specs.Str.Parse.{digits_value, without_leading_plus, without_leading_sign}
use Rattle.std.specs.Str.Parse.{signed_digits_value}
use Rattle.polars_arrays_flat.specs.Row.{Row, Null, Int, Truth}
use Rattle.polars_tables_rows.specs.declared.row_type.RowType.{RowType}
use Rattle.polars_tables_rows.specs.declared.row_type.RowType.TheVariants.{I8, I16, I32, I64, U8}
use Rattle.polars_tables_rows.specs.declared.row_type.RowType.TheVariants.{U16, U32, U64, Boolean}

-- the words of a text: its parts between spaces, except empty ones
abbrev pub words_of : List ℕ → List (List ℕ)
words_of text = filter (λ part. not (length part == 0)) (slice_split (λ c. c == 32) text)

-- the word `|`, which separates lists of rows
abbrev pub is_bar : List ℕ → Bool
is_bar word = bytes_eq word (codes "|")

-- one or more decimal digits, and nothing else
abbrev pub are_digits : List ℕ → Bool
are_digits word = not (length word == 0) && all_ascii_digits word

-- a number of `bits` bits, one of them for the sign
abbrev pub is_signed : ℕ → ℤ → Bool
is_signed bits (pos n) = nat_lt n (2 ^ (bits - 1))
is_signed bits (negsuc n) = nat_lt n (2 ^ (bits - 1))

-- the number in that range written in digits, perhaps after a plus or a minus
abbrev pub signed_number : ℕ → List ℕ → Option ℤ
signed_number bits word =
    if are_digits (without_leading_sign word)
    && is_signed bits (signed_digits_value 10 word) then Some (signed_digits_value 10 word) else
    None

-- the natural number of `bits` bits written in digits, perhaps after a plus
abbrev pub unsigned_number : ℕ → List ℕ → Option ℤ
unsigned_number bits word =
    let digits = without_leading_plus word in
    if are_digits digits
    && nat_lt (digits_value 10 digits) (2 ^ bits) then Some (pos (digits_value 10 digits)) else
    None

-- the truth value of a word
abbrev pub truth_of : List ℕ → Option Bool
truth_of word =
    if bytes_eq word (codes "true") then Some true else
    (if bytes_eq word (codes "false") then Some false else None)

-- the row of this type that a word denotes, if it is not null
abbrev pub value_of : RowType → List ℕ → Option Row
value_of I8 word = option_map Int (signed_number 8 word)
value_of I16 word = option_map Int (signed_number 16 word)
value_of I32 word = option_map Int (signed_number 32 word)
value_of I64 word = option_map Int (signed_number 64 word)
value_of U8 word = option_map Int (unsigned_number 8 word)
value_of U16 word = option_map Int (unsigned_number 16 word)
value_of U32 word = option_map Int (unsigned_number 32 word)
value_of U64 word = option_map Int (unsigned_number 64 word)
value_of Boolean word = option_map Truth (truth_of word)

-- the row of this type that a word denotes
abbrev pub row_of : RowType → List ℕ → Option Row
row_of type word = if bytes_eq word (codes "null") then Some Null else value_of type word

-- the row of a value; Null if there is none
abbrev pub row_from : {A : Type 0} → (A → Row) → Option A → Row
row_from row None = Null
row_from row (Some x) = row x

-- all of the values, if none is missing
abbrev pub all_some : {A : Type 0} → List (Option A) → Option (List A)
all_some [] = Some []
all_some (None ∷ more) = None
all_some (Some x ∷ more) = option_map (λ xs. x ∷ xs) (all_some more)

-- the rows of words, if each word is a row of the type
abbrev pub rows_of : RowType → List (List ℕ) → Option (List Row)
rows_of type words = all_some (map (row_of type) words)

-- the lists of rows of words, separated by bars, if each other word is a row of the type
abbrev pub lists_of : RowType → List (List ℕ) → Option (List (List Row))
lists_of type words = all_some (map (rows_of type) (slice_split is_bar words))

-- the lists after a bar, if there is one
abbrev pub lists_behind : RowType → Option (List ℕ) → Option (List (List Row))
lists_behind type None = Some []
lists_behind type (Some text) = lists_of type (words_of text)
