-- The line of two rows, in the form that is asked for.
--
-- ~ id=4411  city "Oslo" -> "Bergen"
use Rattle.std.specs.Prelude.{ℕ, List}
use Rattle.diff_json.specs.Lines.{object_of}
use Rattle.diff_report.specs.Lines.{line_of}
use Rattle.diff_report.specs.declared.sides.Sides.{Sides}
use Rattle.diff_words.specs.declared.formats.Format.{Format}
use Rattle.diff_words.specs.declared.formats.Format.TheVariants.{Text, Json}

-- the line of left row i and right row j
abbrev pub pair_of : Format → Sides → ℕ → ℕ → List ℕ
pair_of Text s i j = line_of s i j
pair_of Json s i j = object_of s i j
