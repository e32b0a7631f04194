-- The least and the greatest number of a part.
--
-- The ends of the rows 7, null and -3 are -3 and 7, and nulls alone have none.
use Rattle.std.specs.Prelude.{◌≡◌, ℤ, List, Option, MatchOption, option_map}
use Rattle.arrow_calls.specs.Numbers.{number_words}
use Rattle.arrow_calls.specs.declared.number.Number.{Number}
use Rattle.arrow_parts.specs.declared.part.Part.{Part}
use Rattle.dunkelva_c.specs.Columns.{number_rows_of}
use Rattle.polars_arrays_flat.specs.Row.{Row, Int}
use Rattle.polars_compare_extremes.specs.Extremes.{IsGreatest, IsLeast, NonePresent}

-- two numbers are the least and the greatest of the present rows; none if no row is present
abbrev pub AreEnds : List Row → Option (ℤ × ℤ) → Type 0
AreEnds rows ends =
    MatchOption ends (NonePresent rows)
    (λ pair. IsLeast rows (Int pair.0) × IsGreatest rows (Int pair.1))

-- the caller's memory has the least and the greatest number of a part
pub record AreWrittenEnds (p : Part) (low high : Number) : Type 0 where
  pub ends : Option (ℤ × ℤ)
  pub are_ends : AreEnds (number_rows_of p) ends
  pub least : low ≡ number_words (option_map (λ pair. pair.0) ends)
  pub greatest : high ≡ number_words (option_map (λ pair. pair.1) ends)
