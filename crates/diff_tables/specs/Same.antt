-- Comparisons that find no difference.
--
-- By column 0 the rows "a" "1", "b" "2" and the rows "b" "2", "a" "1" have no difference. Compared
-- row by row, without key columns, both pairs are changed.
use Rattle.std.specs.Prelude.{◌≡◌, []}
use Rattle.diff_tables.specs.declared.compare.Comparison.{Comparison}

-- no row is changed, removed or added
pub record HasNoDifference (c : Comparison) : Type 0 where
  pub changed : c.changed.items ≡ []
  pub removed : c.matching.removed.items ≡ []
  pub added : c.matching.added.items ≡ []
