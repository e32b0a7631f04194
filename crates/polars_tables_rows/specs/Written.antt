-- Rows as words.
use Rattle.std.specs.Prelude.{ℕ, Bool, true, false, List, [], map, codes}
use Rattle.std.specs.Fmt.{signed_decimal}
use Rattle.std.specs.List.{join_with_byte}
use Rattle.polars_arrays_flat.specs.Row.{Row, Null, Int, Truth}

-- the word of a truth value
abbrev pub truth_word : Bool → List ℕ
truth_word true = codes "true"
truth_word false = codes "false"

-- the word of a row of a line: `null`, a number in decimal, or a truth value
abbrev pub row_word : Row → List ℕ
row_word Null = codes "null"
row_word (Int n) = signed_decimal n
row_word (Truth b) = truth_word b
row_word x = []

-- rows as words, separated by one space
abbrev pub row_words : List Row → List ℕ
row_words rows = join_with_byte 32 (map row_word rows)
