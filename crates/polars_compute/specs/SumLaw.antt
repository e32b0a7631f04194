-- The law of sums.
use Rattle.std.specs.Prelude.{◌≡◌, ◌++◌, ◌+ℤ◌, ℕ, ℤ, List}
use Rattle.polars_arrays_flat.specs.Row.{Row}
use Rattle.polars_arrays_numbers.specs.Wrapping.{wrapped}
use Rattle.polars_compute_reductions.specs.Sum.{total}

-- the sum of two lists of rows is the sum of their sums
abbrev pub SumsJoin : ℤ → ℕ → Type 0
SumsJoin least width = (rows more : List Row)
    → wrapped least width (total (rows ++ more))
    ≡ wrapped least width (wrapped least width (total rows) +ℤ wrapped least width (total more))
