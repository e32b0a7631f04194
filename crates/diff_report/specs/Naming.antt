-- The names and colours for the rows and cells of a report.
use Rattle.std.specs.Prelude.{ℕ, Bool, List, Option}

-- the names of the columns, the key columns, the cell that stands for no value, where there is one,
-- and whether there are colours
pub record Naming : Type 0 where
  pub names : List (List ℕ)
  pub keys : List ℕ
  pub null : Option (List ℕ)
  pub colored : Bool
