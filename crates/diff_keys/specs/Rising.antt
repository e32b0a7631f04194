-- Numbers that are listed in rising order.
--
-- Of the numbers below 6 the even ones are listed as 0, 2, 4.
use Rattle.std.specs.List.{Contains}
use Rattle.std.specs.Prelude.{◌<◌, ◌↔◌, ℕ, suc, List, length, slice_index}

-- the numbers below n for which P holds are listed, in rising order
pub record ListsRising (P : ℕ → Type 0) (n : ℕ) (rows : List ℕ) : Type 0 where
  pub all : (i : ℕ) → (Contains rows i) ↔ ((i < n) × P i)
  pub in_order : (k : ℕ) → suc k < length rows → slice_index rows k < slice_index rows (suc k)
