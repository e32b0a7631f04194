-- The lines of differences, in the form that is asked for.
--
-- ~ id=4411  city "Oslo" -> "Bergen"
-- {"kind":"removed","key":{"id":"77"},"row":77,"line":78}
use Rattle.std.specs.Prelude.{ℕ, List, ◌++◌, length, map, codes}
use Rattle.diff_json.specs.Counts.{counts_object}
use Rattle.diff_json.specs.Lines.{changed_object, side_object}
use Rattle.diff_keys.specs.declared.matching.Matching.{Matching}
use Rattle.diff_report.specs.Lines.{changed_line, side_line}
use Rattle.diff_report.specs.Naming.{Naming}
use Rattle.diff_report.specs.Sides.{naming_of}
use Rattle.diff_report.specs.Summary.{difference_count, rest_text, summary_text}
use Rattle.diff_report.specs.declared.sides.Side.{Side}
use Rattle.diff_report.specs.declared.sides.Sides.{Sides}
use Rattle.diff_tables.specs.declared.compare.Comparison.{Comparison}
use Rattle.diff_words.specs.declared.formats.Format.{Format}
use Rattle.diff_words.specs.declared.formats.Format.TheVariants.{Text, Json}
use Rattle.diff_report.specs.declared.lines.Alone.{Alone}
use Rattle.diff_report.specs.declared.lines.Alone.TheVariants.{Removed, Added}

-- the line of the pair at place k of the matched rows
abbrev pub pair_at : Format → Sides → Matching → ℕ → List ℕ
pair_at Text = changed_line
pair_at Json = changed_object

-- the line of row i of one side, which has no partner
abbrev pub row_alone : Format → Alone → Naming → Side → ℕ → List ℕ
row_alone Text Removed = side_line 45
row_alone Text Added = side_line 43
row_alone Json Removed = side_object (codes "removed")
row_alone Json Added = side_object (codes "added")

-- the lines of all differences: changed rows in left order, then removed ones, then added ones
abbrev pub all_lines : Format → Sides → Comparison → List (List ℕ)
all_lines format s c = map (pair_at format s c.matching) c.changed.items
    ++ map (row_alone format Removed (naming_of s) s.left) c.matching.removed.items
    ++ map (row_alone format Added (naming_of s) s.right) c.matching.added.items

-- the end of a report: how many more differences there are, and the counts
abbrev pub end_text : Format → Sides → Comparison → List ℕ → ℕ → List ℕ
end_text Text s c counts limit =
    rest_text limit (difference_count c.matching (length c.changed.items))
    ++ summary_text (naming_of s) c counts
end_text Json s c counts limit = counts_object (naming_of s) c counts limit
