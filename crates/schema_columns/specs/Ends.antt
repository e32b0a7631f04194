-- The least and the greatest of rows, as texts.
--
-- The least of the rows 7, -3 and 12 has the text -3, and the greatest the text 12.
use Rattle.std.specs.Fmt.{signed_decimal}
use Rattle.std.specs.Prelude.{◌≡◌, ℕ, Bool, List, [], Option, MatchOption}
use Rattle.polars_arrays_flat.specs.Row.{Row, Int, Bytes}
use Rattle.polars_compare_extremes.specs.Extremes.{FindsBest, NonePresent}
use Rattle.polars_compare_leaves.specs.Order.{row_less, row_greater}

-- the text of a number or of a byte string
abbrev pub row_text : Row → List ℕ
row_text (Int n) = signed_decimal n
row_text (Bytes bytes) = bytes
row_text row = []

-- the text of the first of the best rows
pub record IsBestText (better : Row → Row → Bool) (rows : List Row) (text : List ℕ) : Type 0 where
  pub found : Row
  pub best : FindsBest better rows found
  pub is : text ≡ row_text found

-- the texts of the least and the greatest row, if there is a row
pub record TellsEnds (rows : List Row) (least greatest : Option (List ℕ)) : Type 0 where
  pub low : MatchOption least (NonePresent rows) (IsBestText row_less rows)
  pub high : MatchOption greatest (NonePresent rows) (IsBestText row_greater rows)
