-- The better of two numbers.
use Rattle.std.specs.Prelude.{ℤ, Bool, cond}
use Rattle.polars_arrays_flat.specs.Row.{Row, Int}

-- the second number if its row is better, else the first
abbrev pub best_of : (Row → Row → Bool) → ℤ → ℤ → ℤ
best_of better m n = cond (better (Int n) (Int m)) n m
