-- The summary of a comparison.
--
-- 2 changed, 1 removed, 1 added, 998999 the same.  By column: city 1, amount 2.
use Rattle.std.specs.Fmt.{decimal}
use Rattle.std.specs.List.{range_with_len}
use Rattle.std.specs.Prelude.{◌≡◌, ℕ, ◌+◌, ◌-◌, ◌==◌, nat_lt, Bool, not, ◌&&◌, if◌then◌else◌, List}
use Rattle.std.specs.Prelude.{[], ◌∷◌, ◌++◌, length, map, filter, get_or, slice_index, codes}
use Rattle.diff_keys.specs.declared.matching.Matching.{Matching}
use Rattle.diff_tables.specs.declared.compare.Comparison.{Comparison}
use Rattle.diff_words.specs.Lists.{listed}
use Rattle.diff_words.specs.Words.{word_text}
use Rattle.diff_report.specs.Naming.{Naming}
use Rattle.diff_report.specs.declared.summary.Totals.{Totals}

-- the number of differences, if this many of the matched rows are changed
abbrev pub difference_count : Matching → ℕ → ℕ
difference_count m changed = changed + length m.removed.items + length m.added.items

-- the numbers of a comparison's rows of each kind
pub record AreTotalsOf (c : Comparison) (t : Totals) : Type 0 where
  pub changed : t.changed ≡ length c.changed.items
  pub removed : t.removed ≡ length c.matching.removed.items
  pub added : t.added ≡ length c.matching.added.items
  pub same : t.same ≡ length c.matching.left_rows.items - length c.changed.items

-- the text that says how many differences have no line, if some have a line and others do not
unfoldable pub rest_text : ℕ → ℕ → List ℕ
rest_text limit count = if nat_lt 0 limit && nat_lt limit count then codes ".. and "
    ++ decimal (count - limit) ++ codes " more\n" else []

-- the numbers of rows that are changed, removed, added, and the same
unfoldable pub totals_text : Comparison → List ℕ
totals_text c = decimal (length c.changed.items) ++ codes " changed, "
    ++ decimal (length c.matching.removed.items) ++ codes " removed, "
    ++ decimal (length c.matching.added.items) ++ codes " added, "
    ++ decimal (length c.matching.left_rows.items - length c.changed.items)
    ++ codes " the same."

-- a column has a count that is not 0
abbrev pub is_counted : List ℕ → ℕ → Bool
is_counted counts column = not (slice_index counts column == 0)

-- the columns with a count that is not 0
abbrev pub columns_counted : List ℕ → List ℕ
columns_counted counts = filter (is_counted counts) (range_with_len 0 (length counts))

-- the name of a column, and its count
abbrev pub count_text : List (List ℕ) → List ℕ → ℕ → List ℕ
count_text names counts column = word_text (get_or names column []) ++ 32 ∷ []
    ++ decimal (slice_index counts column)

-- the counts of the columns of these names
unfoldable pub by_column : List (List ℕ) → List ℕ → List ℕ
by_column names counts = codes "  By column: "
    ++ listed (codes ", ") (map (count_text names counts) (columns_counted counts)) ++ codes "."

-- the last line: the totals, and the columns where something is changed
unfoldable pub summary_text : Naming → Comparison → List ℕ → List ℕ
summary_text n c counts = totals_text c
    ++ (if length c.changed.items == 0 then [] else by_column n.names counts) ++ 10 ∷ []
