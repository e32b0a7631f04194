-- The report of a comparison.
--
-- ~ id=4411  city "Oslo" -> "Bergen"
-- - id=77  old.csv line 78
-- .. and 1 more
-- 1 changed, 1 removed, 1 added, 998999 the same.  By column: city 1.
use Rattle.std.specs.List.{concat}
use Rattle.std.specs.Prelude.{ℕ, List, ◌++◌, length, map, take}
use Rattle.diff_tables.specs.declared.compare.Comparison.{Comparison}
use Rattle.diff_report.specs.Lines.{changed_line, side_line}
use Rattle.diff_report.specs.Sides.{naming_of}
use Rattle.diff_report.specs.Summary.{rest_text, summary_text}
use Rattle.diff_report.specs.declared.sides.Sides.{Sides}

-- the lines of all differences: changed rows in left order, then removed ones, then added ones
abbrev pub difference_lines : Sides → Comparison → List (List ℕ)
difference_lines s c = map (changed_line s c.matching) c.changed.items
    ++ map (side_line 45 (naming_of s) s.left) c.matching.removed.items
    ++ map (side_line 43 (naming_of s) s.right) c.matching.added.items

-- the first lines, how many more there are, and the summary
unfoldable pub report_text : Sides → Comparison → List ℕ → ℕ → List ℕ
report_text s c counts limit = concat (take limit (difference_lines s c))
    ++ rest_text limit (length (difference_lines s c)) ++ summary_text (naming_of s) c counts
