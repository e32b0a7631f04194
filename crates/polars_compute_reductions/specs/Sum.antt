-- The sum of rows.
use Rattle.std.specs.Prelude.{◌+ℤ◌, ℕ, ℤ, pos, List, [], ◌∷◌}
use Rattle.polars_arrays_flat.specs.Row.{Row, Int}
use Rattle.polars_arrays_numbers.specs.Wrapping.{wrapped}

-- the summand of a row: a number itself, and 0 for any other row
abbrev pub addend : Row → ℤ
addend (Int n) = n
addend row = pos 0

-- the sum of the present rows, or 0 for none
abbrev pub total : List Row → ℤ
total [] = pos 0
total (row ∷ more) = addend row +ℤ total more

-- two numbers added, wrapped
abbrev pub wrapped_sum : ℤ → ℕ → ℤ → ℤ → ℤ
wrapped_sum least width a b = wrapped least width (a +ℤ b)
