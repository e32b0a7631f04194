-- The report of a comparison as JSON lines.
--
-- {"kind":"changed","key":{"id":"4411"},"left_row":5,"right_row":7,"left_line":6,"right_line":8,
--  "changes":{"city":{"left":"Oslo","right":"Bergen"}}}
-- {"kind":"removed","key":{"id":"77"},"row":77,"line":78}
-- {"kind":"counts","changed":1,"removed":1,"added":1,"same":998999,"not_shown":1,
--  "columns":{"city":1}}
use Rattle.std.specs.List.{concat}
use Rattle.std.specs.Prelude.{ℕ, List, ◌++◌, map, take, codes}
use Rattle.diff_tables.specs.declared.compare.Comparison.{Comparison}
use Rattle.diff_report.specs.Sides.{naming_of}
use Rattle.diff_report.specs.declared.sides.Sides.{Sides}
use Rattle.diff_json.specs.Counts.{counts_object}
use Rattle.diff_json.specs.Lines.{changed_object, side_object}

-- the lines of all differences: changed rows in left order, then removed ones, then added ones
abbrev pub difference_objects : Sides → Comparison → List (List ℕ)
difference_objects s c = map (changed_object s c.matching) c.changed.items
    ++ map (side_object (codes "removed") (naming_of s) s.left) c.matching.removed.items
    ++ map (side_object (codes "added") (naming_of s) s.right) c.matching.added.items

-- the first lines, and the counts
unfoldable pub json_text : Sides → Comparison → List ℕ → ℕ → List ℕ
json_text s c counts limit = concat (take limit (difference_objects s c))
    ++ counts_object (naming_of s) c counts limit
