-- The rows that a part of a table has.
--
-- The key of "a" alone in column 0 is "a" and its end, 0 and 0, which has an even hash. So of the
-- rows "a" "1" and "a" "2" part 2 of 2 has both, of the numbers 1 and 2, and part 1 has none.
use Rattle.std.specs.List.{filter}
use Rattle.std.specs.Prelude.{ℕ, Bool, List, Option, Some, None}
use Rattle.diff_parts.specs.Parts.{PartNumber, in_part, numbers_kept}
use Rattle.diff_tables.specs.Keys.{row_key}

-- whether a part has a row, by its cells in the key columns
abbrev pub has_row : PartNumber → List ℕ → List (List ℕ) → Bool
has_row part keys row = in_part part (row_key keys row)

-- the rows of a part, or all rows where there is none
abbrev pub rows_in : Option PartNumber → List ℕ → List (List (List ℕ)) → List (List (List ℕ))
rows_in None keys rows = rows
rows_in (Some part) keys rows = filter (has_row part keys) rows

-- the numbers that the rows of a part have among all rows, the first being 1
abbrev pub numbers_in : Option PartNumber → List ℕ → List (List (List ℕ)) → Option (List ℕ)
numbers_in None keys rows = None
numbers_in (Some part) keys rows = Some (numbers_kept (has_row part keys) 1 rows)
