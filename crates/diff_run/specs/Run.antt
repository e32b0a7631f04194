-- The report of two CSV texts.
--
-- With the key "id" the texts "id,n", "7,1", "8,2" and "n,id", "3,8" of three and two lines have
-- the report
-- ~ id=8  n "2" -> "3"
-- - id=7  old.csv line 2
-- 1 changed, 1 removed, 0 added, 0 the same.  By column: n 1.
use Rattle.std.specs.Prelude.{◌≡◌, ◌||◌, ℕ, true, false, if◌then◌else◌, List, [], ◌++◌, option_map}
use Rattle.polars_arrays_bytes.specs.OffsetStrings.{offset_strings}
use Rattle.diff_columns.specs.Layout.{IsLayout}
use Rattle.diff_columns.specs.Names.{AreMatchable, Names, names_of}
use Rattle.diff_columns.specs.declared.layout.Layout.{Layout}
use Rattle.diff_columns.specs.declared.error.Side.TheVariants.{Left, Right}
use Rattle.diff_csv.specs.Quotes.{ends_open}
use Rattle.diff_csv.specs.Records.{AreRecordsOf, HaveOneLength}
use Rattle.diff_csv.specs.Records as csv
use Rattle.diff_json.specs.Report.{json_text}
use Rattle.diff_keys.specs.Outcome as outcome
use Rattle.diff_keys.specs.Unique.{AllDiffer}
use Rattle.diff_report.specs.Counts.{column_counts}
use Rattle.diff_report.specs.Report.{report_text}
use Rattle.diff_report.specs.Sides.{compared_left, compared_right}
use Rattle.diff_report.specs.declared.sides.Sides.{Sides}
use Rattle.diff_run.specs.Chosen.{AreKnown, no_columns, nothing_left}
use Rattle.diff_run.specs.Comparables.{AreRightRows, rows_by}
use Rattle.diff_run.specs.Inputs.{IsSideWith}
use Rattle.diff_run.specs.Lone.{alone_lines}
use Rattle.diff_words.specs.declared.formats.Format.{Format}
use Rattle.diff_words.specs.declared.formats.Format.TheVariants.{Text, Json}
use Rattle.diff_run.specs.declared.options.Options.{Options}
use Rattle.diff_keys.specs.declared.outcome.Outcome.{Outcome}
use Rattle.diff_tables.specs.Comparison.{IsComparison}
use Rattle.diff_tables.specs.Keys.{cells_at, row_keys}
use Rattle.diff_tables.specs.declared.compare.Comparison.{Comparison}

-- the outcome: the tables are the same if no row and no column makes a difference
abbrev pub outcome_of : Options → Layout → Comparison → Outcome
outcome_of options layout c =
    outcome.outcome_of c.matching c.changed.items (options.common || no_columns layout)

-- the lines of the columns that only one input has
abbrev pub columns_text : Options → List ℕ → List ℕ → Names → Names → Layout → List ℕ
columns_text options left right left_names right_names layout =
    if options.common then [] else alone_lines options.format Left left left_names
    layout.left_alone.items
    ++ alone_lines options.format Right right right_names layout.right_alone.items

-- the lines of the differences, and the counts
abbrev pub differences_text : Format → Sides → Comparison → List ℕ → ℕ → List ℕ
differences_text Text sides comparison counts limit = report_text sides comparison counts limit
differences_text Json sides comparison counts limit = json_text sides comparison counts limit

-- no key comes twice on either side
abbrev pub HaveUniqueKeys : Sides → Type 0
HaveUniqueKeys sides = AllDiffer (row_keys sides.keys.items (compared_left sides))
    × AllDiffer (row_keys sides.keys.items (compared_right sides))

-- the sides are the rows of two texts, or those of a part, in the columns that are compared, and
-- what these rows are compared by
pub record AreSidesOf (options : Options) (left_text right_text left_name right_name : List ℕ)
    (layout : Layout) (sides : Sides) : Type 0 where
  pub left_records : List (List (List ℕ))
  pub right_records : List (List (List ℕ))
  pub left_all : AreRecordsOf options.csv left_text left_records
  pub right_all : AreRecordsOf options.csv right_text right_records
  pub left_lengths : HaveOneLength left_records
  pub right_lengths : HaveOneLength right_records
  pub left_closed : ends_open options.csv left_text ≡ false
  pub right_closed : ends_open options.csv right_text ≡ false
  pub matchable :
      AreMatchable (csv.names_of options.csv.has_header left_records)
      (csv.names_of options.csv.has_header right_records) (names_of options.choice.keys.now)
  pub laid_out :
      IsLayout (csv.names_of options.csv.has_header left_records)
      (csv.names_of options.csv.has_header right_records) options.choice layout
  pub known :
      AreKnown options (csv.names_of options.csv.has_header left_records)
      (csv.names_of options.csv.has_header right_records)
  pub some_left :
      nothing_left options (csv.names_of options.csv.has_header left_records)
      (csv.names_of options.csv.has_header right_records) layout ≡ false
  pub left : IsSideWith options.csv.has_header left_records layout.left.items layout.keys.items
      options.part left_name sides.left
  pub right : IsSideWith options.csv.has_header right_records layout.right.items layout.keys.items
      options.part right_name sides.right
  pub left_compared : compared_left sides
      ≡ rows_by options.tolerances options.numbers (offset_strings (λ x. x) sides.names)
      sides.left.table.rows
  pub right_compared :
      AreRightRows options.tolerances (offset_strings (λ x. x) sides.names) sides.keys.items
      (rows_by options.tolerances options.numbers (offset_strings (λ x. x) sides.names)
      sides.left.table.rows)
      (rows_by options.tolerances options.numbers (offset_strings (λ x. x) sides.names)
      sides.right.table.rows)
      (compared_right sides)
  pub column_names : offset_strings (λ x. x) sides.names
      ≡ cells_at layout.left.items (csv.names_of options.csv.has_header left_records)
  pub keys : sides.keys.items ≡ layout.keys.items
  pub null : option_map (λ v. v.items) sides.null ≡ option_map (λ v. v.now) options.null
  pub colored : sides.colored ≡ options.colored

-- the report of two texts, and its outcome
pub record IsReportOf (options : Options)
    (left_text right_text left_name right_name written : List ℕ) (outcome : Outcome) : Type 0 where
  pub layout : Layout
  pub sides : Sides
  pub comparison : Comparison
  pub sides_are : AreSidesOf options left_text right_text left_name right_name layout sides
  pub compared :
      IsComparison sides.keys.items (compared_left sides) (compared_right sides) comparison
  pub unique : options.unique ≡ true → HaveUniqueKeys sides
  pub text : written
      ≡ columns_text options left_name right_name
      (csv.names_of options.csv.has_header sides_are.left_records)
      (csv.names_of options.csv.has_header sides_are.right_records) layout
      ++ differences_text options.format sides comparison
      (column_counts sides comparison.matching comparison.changed.items) options.limit
  pub outcome_is : outcome ≡ outcome_of options layout comparison
