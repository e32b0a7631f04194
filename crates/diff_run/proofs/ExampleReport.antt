-- The worked example of a report: of the two texts of docs/DIFF.md, whatever is their report is the text that stands there.
use Rattle.std.proofs.Common.{◌≡◌, ◌∙◌, ℕ, List, [], ◌∷◌, ◌++◌, map, ap, subst, refl}
use Rattle.std.specs.Prelude.{None, true, false, codes}
use Rattle.diff_columns.specs.Layout.{IsLayout}
use Rattle.diff_columns.specs.Names.{Names}
use Rattle.diff_columns.specs.declared.error.Side.TheVariants.{Left, Right}
use Rattle.diff_columns.specs.declared.layout.Layout.{Layout}
use Rattle.diff_csv.specs.RecordLaws.{one_reading}
use Rattle.diff_csv.specs.Records.{AreRecordsOf, data_rows}
use Rattle.diff_csv.specs.Records as csv
use Rattle.diff_csv.specs.declared.options.CsvOptions.{CsvOptions}
use Rattle.diff_report.specs.Counts.{column_counts}
use Rattle.diff_report.specs.Report.{report_text}
use Rattle.diff_report.specs.Sides.{compared_left, compared_right, naming_of}
use Rattle.diff_tables.specs.Comparison.{IsComparison}
use Rattle.diff_tables.specs.Keys.{cells_at}
use Rattle.diff_tables.specs.declared.compare.Comparison.{Comparison}
use Rattle.diff_run.specs.Lone.{alone_lines}
use Rattle.diff_run.specs.Run.{AreSidesOf, IsReportOf, outcome_of}
use Rattle.diff_words.specs.declared.formats.Format.TheVariants.{Text}
use Rattle.diff_run.specs.declared.options.Options.{Options}
use Rattle.diff_keys.specs.declared.outcome.Outcome.{Outcome}
use Rattle.diff_keys.specs.declared.outcome.Outcome.TheVariants.{Different}
use Rattle.diff_run.proofs.ExampleColumns.{IsExampleLayout, by_id, example_layout, new_names, old_names}
use Rattle.diff_run.proofs.ExampleLines.{example_text, naming, parts, parts_of, same_naming, same_parts}
use Rattle.diff_run.proofs.ExampleRows.{IsExampleComparison, example_comparison, new_rows, old_rows}

abbrev pub commas : CsvOptions
commas = record { delimiter = 44; has_header = true }

-- the options of dunkelva diff old.csv new.csv --key id
abbrev pub options : Options
options = record { choice = by_id; csv = commas; numbers = None; tolerances = None; part = None; null = None; limit = 20; common = false; unique = false; format = Text; colored = false }

abbrev old_text : List ℕ
old_text = codes "id,city,amount\n1,Oslo,12.50\n2,Bergen,3\n3,Molde,1\n"

abbrev new_text : List ℕ
new_text = codes "amount,id,city\n12.75,1,Bergen\n1,3,Molde\n9,4,Hamar\n"

-- what run writes for them
abbrev report : List ℕ
report = codes "~ id=1  city \"Oslo\" -> \"Bergen\", amount \"12.50\" -> \"12.75\"\n- id=2  old.csv line 3\n+ id=4  new.csv line 4\n1 changed, 1 removed, 1 added, 1 the same.  By column: city 1, amount 1.\n"

-- the records of both texts
abbrev old_records : List (List (List ℕ))
old_records = old_names ∷ old_rows

abbrev new_records : List (List (List ℕ))
new_records = new_names ∷ (codes "12.75" ∷ codes "1" ∷ codes "Bergen" ∷ []) ∷ (codes "1" ∷ codes "3" ∷ codes "Molde" ∷ []) ∷ (codes "9" ∷ codes "4" ∷ codes "Hamar" ∷ []) ∷ []

-- no column has a line
none-alone : (left right : Names) (left_alone right_alone : List ℕ) → left_alone ≡ [] → right_alone ≡ []
    → alone_lines Text Left (codes "old.csv") left left_alone ++ alone_lines Text Right (codes "new.csv") right right_alone ≡ []
none-alone left right left_alone right_alone a b = rw (a, b) refl

-- a row is changed
one-changed : (layout : Layout) (c : Comparison) → c.changed.items ≡ 0 ∷ [] → outcome_of options layout c ≡ Different
one-changed layout c changed = rw changed refl

-- whatever is the report of both texts is the text of docs/DIFF.md, where each row has the line at which it begins.
-- That the texts have these records is an example of diff_csv
the-report : AreRecordsOf commas old_text old_records → AreRecordsOf commas new_text new_records → (written : List ℕ) (outcome : Outcome) (r : IsReportOf options old_text new_text (codes "old.csv") (codes "new.csv") written outcome)
    → r.sides.left.lines.items ≡ 2 ∷ 3 ∷ 4 ∷ [] → r.sides.right.lines.items ≡ 2 ∷ 3 ∷ 4 ∷ [] → (written ≡ report) × (outcome ≡ Different)
the-report old new written outcome r left_lines right_lines = (r.text ∙ (ap (λ columns. columns ++ rows) no_columns ∙ whole), r.outcome_is ∙ one-changed r.layout r.comparison found.changed)
  where
    are : AreSidesOf options old_text new_text (codes "old.csv") (codes "new.csv") r.layout r.sides
    are = r.sides_are

    left_read : are.left_records ≡ old_records
    left_read = one_reading _ _ _ are.left_records old_records are.left_all old

    right_read : are.right_records ≡ new_records
    right_read = one_reading _ _ _ are.right_records new_records are.right_all new

    laid : IsExampleLayout r.layout
    laid = example_layout r.layout (subst (λ records. IsLayout old_names (csv.names_of true records) by_id r.layout) right_read
        (subst (λ records. IsLayout (csv.names_of true records) (csv.names_of true are.right_records) by_id r.layout) left_read are.laid_out))

    left_rows : r.sides.left.table.rows ≡ old_rows
    left_rows = are.left.rows ∙ (ap (λ records. map (cells_at r.layout.left.items) (data_rows true records)) left_read ∙ ap (λ columns. map (cells_at columns) (data_rows true old_records)) laid.left)

    right_rows : r.sides.right.table.rows ≡ new_rows
    right_rows = are.right.rows ∙ (ap (λ records. map (cells_at r.layout.right.items) (data_rows true records)) right_read ∙ ap (λ columns. map (cells_at columns) (data_rows true new_records)) laid.right)

    named : naming_of r.sides ≡ naming
    named = same_naming _ _ _ _ (are.column_names ∙ (ap (λ records. cells_at r.layout.left.items (csv.names_of true records)) left_read ∙ ap (λ columns. cells_at columns old_names) laid.left)) (are.keys ∙ laid.keys) are.null are.colored

    left_compared : compared_left r.sides ≡ old_rows
    left_compared = are.left_compared ∙ left_rows

    right_compared : compared_right r.sides ≡ new_rows
    right_compared = are.right_compared ∙ right_rows

    found : IsExampleComparison r.comparison
    found = example_comparison r.comparison (subst (λ right. IsComparison (0 ∷ []) old_rows right r.comparison) right_compared
        (subst (λ left. IsComparison (0 ∷ []) left (compared_right r.sides) r.comparison) left_compared
        (subst (λ keys. IsComparison keys (compared_left r.sides) (compared_right r.sides) r.comparison) (are.keys ∙ laid.keys) r.compared)))

    made : parts_of r.sides r.comparison ≡ parts
    made = same_parts _ _ _ _ _ _ _ _ _ _ _ _ _ _ named are.left.named are.right.named left_rows right_rows left_compared right_compared left_lines right_lines
        found.matching.left_rows found.matching.right_rows found.changed found.matching.removed found.matching.added

    rows : List ℕ
    rows = report_text r.sides r.comparison (column_counts r.sides r.comparison.matching r.comparison.changed.items) 20

    no_columns : alone_lines Text Left (codes "old.csv") (csv.names_of true are.left_records) r.layout.left_alone.items ++ alone_lines Text Right (codes "new.csv") (csv.names_of true are.right_records) r.layout.right_alone.items ≡ []
    no_columns = none-alone (csv.names_of true are.left_records) (csv.names_of true are.right_records) r.layout.left_alone.items r.layout.right_alone.items laid.left_alone laid.right_alone

    whole : rows ≡ report
    whole = example_text r.sides r.comparison made
