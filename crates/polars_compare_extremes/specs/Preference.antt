-- Preferences: relations that say which of two rows is better.
use Rattle.std.specs.Prelude.{◌≡◌, Bool, true, false}
use Rattle.polars_arrays_flat.specs.Row.{Row}

-- Laws of `better` for the rows that `put` makes. Of two rows, at most one is better than the
-- other. If row y is better than row x, and row z is not better than x, then y is better than z.
pub record Prefers {A : Type 0} (put : A → Row) (better : Row → Row → Bool) : Type 0 where
  pub one_way : (x y : A) → better (put x) (put y) ≡ true → better (put y) (put x) ≡ false
  pub passes : (x y z : A) → better (put y) (put x) ≡ true → better (put z) (put x) ≡ false
      → better (put y) (put z) ≡ true
