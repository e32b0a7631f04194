-- Worked examples of `IsReportOf`: a text that is the report of two texts, and texts that are not.
use Rattle.std.proofs.Common.{◌≡◌, ◌∙◌, ℕ, true, false, List, [], ◌∷◌, ◌++◌, get_or, map}
use Rattle.std.proofs.Common.{arith, ap, subst, sym, refl}
use Rattle.std.specs.Fmt.{digits}
use Rattle.std.specs.List.{concat}
use Rattle.std.specs.Prelude.{codes, length, take}
use Rattle.csv.specs.Machine.{next_record}
use Rattle.csv.specs.Reading.{Reached, strip_bom}
use Rattle.csv.specs.declared.parser.State.TheVariants as st
use Rattle.diff_columns.specs.Layout.{IsLayout}
use Rattle.diff_columns.specs.declared.error.Side.TheVariants.{Left, Right}
use Rattle.diff_columns.specs.declared.layout.Layout.{Layout}
use Rattle.diff_csv.specs.RecordLaws.{one_reading}
use Rattle.diff_csv.specs.Records.{AreRecordsOf, data_rows}
use Rattle.diff_csv.specs.Records as csv
use Rattle.diff_keys.specs.declared.matching.Matching.{Matching}
use Rattle.diff_keys.specs.declared.outcome.Outcome.{Outcome}
use Rattle.diff_keys.specs.declared.outcome.Outcome.TheVariants.{Same, Different}
use Rattle.diff_report.specs.Counts.{column_counts}
use Rattle.diff_report.specs.Lines.{changed_line, side_line, side_text}
use Rattle.diff_report.specs.Report.{difference_lines, report_text}
use Rattle.diff_report.specs.Rows.{row_text}
use Rattle.diff_report.specs.Sides.{compared_left, compared_right, naming_of}
use Rattle.diff_report.specs.Summary.{by_column, rest_text, summary_text, totals_text}
use Rattle.diff_report.specs.declared.sides.Sides.{Sides}
use Rattle.diff_run.proofs.ExampleColumns.{IsExampleLayout, by_id, example_layout, new_names}
use Rattle.diff_run.proofs.ExampleColumns.{old_names}
use Rattle.diff_run.proofs.ExampleReport.{commas, options}
use Rattle.diff_run.proofs.ExampleRows as docs
use Rattle.diff_run.specs.Lone.{alone_lines}
use Rattle.diff_run.specs.Run.{AreSidesOf, IsReportOf, outcome_of}
use Rattle.diff_tables.specs.Comparison.{IsComparison}
use Rattle.diff_tables.specs.Keys.{cells_at}
use Rattle.diff_tables.specs.declared.compare.Comparison.{Comparison}
use Rattle.diff_words.specs.Cells.{cell_text}
use Rattle.diff_words.specs.Colors.{color_text, painted}
use Rattle.diff_words.specs.Lists.{listed}
use Rattle.diff_words.specs.Quoted.{byte_text, quoted}
use Rattle.diff_words.specs.Words.{word_text}
use Rattle.diff_words.specs.declared.formats.Format.TheVariants.{Text}
use Rattle.worked_examples.proofs.ExampleColumns.{layout}
use Rattle.worked_examples.proofs.ExampleRows.{comparison, comparison-is}
use Rattle.worked_examples.proofs.ExampleSides.{new_text, old_text, sides, sides_are}

-- what dunkelva diff old.csv new.csv --key id writes of the texts "id,n", "7,1", "8,2" and "id,n",
-- "8,3" of three lines and of two
abbrev report : List ℕ
report =
    codes "~ id=8  n \"2\" -> \"3\"\n"
    ++ codes "- id=7  old.csv line 2\n"
    ++ codes "1 changed, 1 removed, 0 added, 0 the same.  By column: n 1.\n"

printed : report_text sides comparison (0 ∷ 1 ∷ []) 20 ≡ report
unfolding report_text changed_line side_line side_text summary_text totals_text row_text listed
    word_text cell_text quoted byte_text painted color_text digits rest_text by_column
printed = refl

counted : column_counts sides comparison.matching comparison.changed.items ≡ 0 ∷ 1 ∷ []
counted = refl

-- it is the report of these two texts, and it says that they differ
old-new-report :
    IsReportOf options old_text new_text (codes "old.csv") (codes "new.csv") report Different
old-new-report = record {
  layout = layout;
  sides = sides;
  comparison = comparison;
  sides_are = sides_are false;
  compared = comparison-is;
  unique = λ asked. let e : false ≡ true = asked in absurd (cc e);
  text = sym (ap (λ counts. report_text sides comparison counts 20) counted ∙ printed);
  outcome_is = refl;
}

-- the two texts of docs/DIFF.md
abbrev docs_old : List ℕ
docs_old = codes "id,city,amount\n1,Oslo,12.50\n2,Bergen,3\n3,Molde,1\n"

abbrev docs_new : List ℕ
docs_new = codes "amount,id,city\n12.75,1,Bergen\n1,3,Molde\n9,4,Hamar\n"

abbrev docs_old_records : List (List (List ℕ))
docs_old_records = old_names ∷ docs.old_rows

abbrev docs_new_records : List (List (List ℕ))
docs_new_records =
    new_names ∷ (codes "12.75" ∷ codes "1" ∷ codes "Bergen" ∷ []) ∷
    (codes "1" ∷ codes "3" ∷ codes "Molde" ∷ [])
    ∷ (codes "9" ∷ codes "4" ∷ codes "Hamar" ∷ []) ∷ []

docs-old-read : AreRecordsOf commas docs_old docs_old_records
unfolding next_record Reached strip_bom
docs-old-read = (
  st.StartRecord,
  [],
  (
    (_, st.StartRecord, codes "1,Oslo,12.50\n2,Bergen,3\n3,Molde,1\n"),
    refl,
    refl,
    (
      (_, st.StartRecord, codes "2,Bergen,3\n3,Molde,1\n"),
      refl,
      refl,
      (
        (_, st.StartRecord, codes "3,Molde,1\n"),
        refl,
        refl,
        ((_, st.StartRecord, []), refl, refl, (refl, refl)),
      ),
    ),
  ),
  refl,
)

docs-new-read : AreRecordsOf commas docs_new docs_new_records
unfolding next_record Reached strip_bom
docs-new-read = (
  st.StartRecord,
  [],
  (
    (_, st.StartRecord, codes "12.75,1,Bergen\n1,3,Molde\n9,4,Hamar\n"),
    refl,
    refl,
    (
      (_, st.StartRecord, codes "1,3,Molde\n9,4,Hamar\n"),
      refl,
      refl,
      (
        (_, st.StartRecord, codes "9,4,Hamar\n"),
        refl,
        refl,
        ((_, st.StartRecord, []), refl, refl, (refl, refl)),
      ),
    ),
  ),
  refl,
)

-- whatever is their report lists the first pair as changed, and no column
record IsDocs (written : List ℕ) (outcome : Outcome) : Type 0 where
  sides : Sides
  comparison : Comparison
  changed : comparison.changed.items ≡ 0 ∷ []
  plain : sides.colored ≡ false
  text : written
      ≡ report_text sides comparison
      (column_counts sides comparison.matching comparison.changed.items) 20
  different : outcome ≡ Different

-- a row is changed
one-changed : (l : Layout) (c : Comparison) → c.changed.items ≡ 0 ∷ [] → outcome_of options l c
    ≡ Different
one-changed l c changed = rw changed refl

no-columns : (left right : List (List ℕ)) (left_alone right_alone : List ℕ) → left_alone ≡ []
    → right_alone ≡ []
    → alone_lines Text Left (codes "old.csv") left left_alone
    ++ alone_lines Text Right (codes "new.csv") right right_alone ≡ []
no-columns left right left_alone right_alone a b = rw (a, b) refl

docs-report : (written : List ℕ) (outcome : Outcome)
    → IsReportOf options docs_old docs_new (codes "old.csv") (codes "new.csv") written outcome
    → IsDocs written outcome
docs-report written outcome r = record {
  sides = r.sides;
  comparison = r.comparison;
  changed = found.changed;
  plain = are.colored;
  text = r.text ∙ ap
      (λ columns. columns
      ++ report_text r.sides r.comparison
      (column_counts r.sides r.comparison.matching r.comparison.changed.items) 20)
      (no-columns (csv.names_of true are.left_records) (csv.names_of true are.right_records)
      r.layout.left_alone.items r.layout.right_alone.items laid.left_alone laid.right_alone);
  different = r.outcome_is ∙ one-changed r.layout r.comparison found.changed;
}
  where
    are : AreSidesOf options docs_old docs_new (codes "old.csv") (codes "new.csv") r.layout r.sides
    are = r.sides_are

    left_read : are.left_records ≡ docs_old_records
    left_read = one_reading _ _ _ are.left_records docs_old_records are.left_all docs-old-read

    right_read : are.right_records ≡ docs_new_records
    right_read = one_reading _ _ _ are.right_records docs_new_records are.right_all docs-new-read

    laid : IsExampleLayout r.layout
    laid = example_layout r.layout
        (subst (λ records. IsLayout old_names (csv.names_of true records) by_id r.layout) right_read
        (subst (λ records. IsLayout (csv.names_of true records)
        (csv.names_of true are.right_records) by_id r.layout) left_read are.laid_out))

    left_rows : compared_left r.sides ≡ docs.old_rows
    left_rows = are.left_compared ∙
        (are.left.rows ∙
        (ap (λ records. map (cells_at r.layout.left.items) (data_rows true records)) left_read
        ∙ ap (λ columns. map (cells_at columns) (data_rows true docs_old_records)) laid.left))

    right_rows : compared_right r.sides ≡ docs.new_rows
    right_rows = are.right_compared ∙
        (are.right.rows ∙
        (ap (λ records. map (cells_at r.layout.right.items) (data_rows true records)) right_read
        ∙ ap (λ columns. map (cells_at columns) (data_rows true docs_new_records)) laid.right))

    found : docs.IsExampleComparison r.comparison
    found = docs.example_comparison r.comparison
        (subst (λ right. IsComparison (0 ∷ []) docs.old_rows right r.comparison) right_rows
        (subst (λ left. IsComparison (0 ∷ []) left (compared_right r.sides) r.comparison) left_rows
        (subst (λ keys. IsComparison keys (compared_left r.sides) (compared_right r.sides)
        r.comparison) (are.keys ∙ laid.keys) r.compared)))

-- lines of which the first is that of a changed pair begin with ~
starts : (s : Sides) (m : Matching) (changed : List ℕ) (removed added : List (List ℕ))
    (rest summary : List ℕ) → changed ≡ 0 ∷ [] → s.colored ≡ false
    → get_or (concat (take 20 (map (changed_line s m) changed ++ removed ++ added)) ++ rest
    ++ summary) 0 0 ≡ 126
unfolding changed_line painted color_text
starts s m changed removed added rest summary one plain = rw (one, plain) refl

-- a report of a changed pair begins with ~
begins : (s : Sides) (c : Comparison) (counts : List ℕ) → c.changed.items ≡ 0 ∷ [] → s.colored
    ≡ false → get_or (report_text s c counts 20) 0 0 ≡ 126
unfolding report_text
begins s c counts changed plain = starts s c.matching c.changed.items
    (map (side_line 45 (naming_of s) s.left) c.matching.removed.items)
    (map (side_line 43 (naming_of s) s.right) c.matching.added.items)
    (rest_text 20 (length (difference_lines s c))) (summary_text (naming_of s) c counts) changed
    plain

-- so the text that all rows are the same is not their report, whatever is said of the outcome
docs-not_the_same : (outcome : Outcome)
    → ¬ (IsReportOf options docs_old docs_new (codes "old.csv") (codes "new.csv")
    (codes "0 changed, 0 removed, 0 added, 3 the same.\n") outcome)
docs-not_the_same outcome r =
    let it = docs-report (codes "0 changed, 0 removed, 0 added, 3 the same.\n") outcome r in
    let first : 48 ≡ 126 =
    ap (λ text. get_or text 0 0) it.text ∙ begins it.sides it.comparison _ it.changed it.plain in
    omega (arith, first)

-- nor is a report of theirs empty
docs-not_empty : (outcome : Outcome)
    → ¬ (IsReportOf options docs_old docs_new (codes "old.csv") (codes "new.csv") [] outcome)
docs-not_empty outcome r =
    let it = docs-report [] outcome r in
    let first : 0 ≡ 126 =
    ap (λ text. get_or text 0 0) it.text ∙ begins it.sides it.comparison _ it.changed it.plain in
    omega (arith, first)

-- and no text is their report with the outcome that they are the same
docs-not_same : (written : List ℕ)
    → ¬ (IsReportOf options docs_old docs_new (codes "old.csv") (codes "new.csv") written Same)
docs-not_same written r =
    let it = docs-report written Same r in
    let both : Same ≡ Different = it.different in
    cc
