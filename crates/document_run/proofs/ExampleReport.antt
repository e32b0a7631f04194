-- The worked example of a report: whatever is the report of two texts is this text.
--
-- old.ndjson              new.ndjson
-- {"id":1,"n":2}          {"id":1,"n":3}
-- {"id":2}                {"id":3.0}
-- {"n":null,"id":3}       {"id":4}
use Rattle.std.proofs.Common.{◌≡◌, ◌∙◌, ℕ, List, [], ◌∷◌, length, map, ap, subst, sym, refl}
use Rattle.std.specs.Fmt.{digits}
use Rattle.std.specs.List.{range_with_len}
use Rattle.std.specs.Prelude.{None, Some, false, codes}
use Rattle.fast_float.specs.Text.{scan}
use Rattle.diff_keys.specs.Matching.{IsMatching}
use Rattle.diff_keys.specs.Rising.{ListsRising}
use Rattle.diff_keys.specs.declared.matching.Matching.{Matching}
use Rattle.diff_run.proofs.ExampleRows.{IsExampleMatching, example_matching, new_keys, old_keys}
use Rattle.diff_run.proofs.OnceLemmas.{one_listing}
use Rattle.diff_keys.specs.declared.outcome.Outcome.{Outcome}
use Rattle.diff_keys.specs.declared.outcome.Outcome.TheVariants.{Different}
use Rattle.diff_tables.specs.Keys.{row_keys}
use Rattle.diff_tables.specs.Tables.{TableRows}
use Rattle.diff_words.specs.Colors.{color_text, painted}
use Rattle.diff_words.specs.Lists.{listed}
use Rattle.document_report.specs.Documents.{changes_at, changes_between}
use Rattle.document_report.specs.Pairs.{pair_text}
use Rattle.document_report.specs.Forms.{format_text}
use Rattle.document_report.specs.Report.{document_report_text}
use Rattle.document_rows.specs.Documents.{tree_of}
use Rattle.document_rows.specs.Lines.{lines_of}
use Rattle.document_rows.specs.Numbers.{numbered_lines}
use Rattle.document_rows.specs.Tables.{line_at}
use Rattle.document_run.specs.Run.{AreSidesOf, IsDocumentReportOf, document_keys, key_columns, left_documents, outcome_of, right_documents}
use Rattle.document_run.specs.declared.options.DocumentOptions.{DocumentOptions}
use Rattle.document_words.specs.Changes.{change_text, part_text}
use Rattle.document_words.specs.Counts.{totals_text}
use Rattle.document_words.specs.declared.sides.DocumentSides.{DocumentSides}
use Rattle.json.specs.Json.{null, number}
use Rattle.json.specs.Print.{escape_byte, print_from}
use Rattle.json_changes.specs.Differences.{Difference}
use Rattle.json_changes.specs.Rules.{Rules, differences_told, no_rules}
use Rattle.json_changes.specs.Texts.{rules_view, told}
use Rattle.json_decimals.specs.Decimals.{decimal_of, normal_of}
use Rattle.json_decimals.specs.Texts.{digits_text, normal_number, number_text, tens_text}
use Rattle.json_paths.specs.Paths.{name}
use Rattle.json_plain.specs.Plain.{plain_byte, plain_json}
use Rattle.document_run.proofs.ExampleDocuments.{keys_of_new, keys_of_old, lines_of_new, lines_of_old, new_four, new_lines, new_one, new_one_tree, new_rows, new_text, new_three, new_three_tree, old_lines, old_one, old_one_tree, old_rows, old_text, old_three, old_three_tree, old_two, rows_of_new, rows_of_old}
use Rattle.document_run.proofs.ExampleLines.{example_text, places, same_parts, text_with}
use Rattle.document_run.proofs.ExampleSides.{AreById, IsRead, TellsAt, changed_listed, one_key, side_read, told_one, told_three}

-- the line of row i of a table of documents of one key
line-is : (t : TableRows) (rows : List (List (List ℕ))) (i : ℕ) → t.rows ≡ rows → t.width ≡ 2 → line_at t i ≡ line_at (record { width = 2; rows = rows; far = false }) i
line-is t rows i a b = rw (a, b) refl

-- what is told between two rows
changes-are : (s : DocumentSides) (rules : Rules) (i j : ℕ) (left right : List ℕ) (ds : List Difference) → rules_view s.rules.now ≡ rules → line_at s.left.table i ≡ left → line_at s.right.table j ≡ right
    → differences_told rules (tree_of left) (tree_of right) ≡ ds → changes_at s i j ≡ map told ds
changes-are s rules i j left right ds by l r are =
    ap (λ rs. changes_between rs (line_at s.left.table i) (line_at s.right.table j)) by
    ∙ (ap (λ line. changes_between rules line (line_at s.right.table j)) l ∙ (ap (λ line. changes_between rules left line) r ∙ ap (map told) are))

-- as many places where there are as many texts
same-places : (one three : List Difference) → places one three ≡ places (map told one) (map told three)
same-places [] [] = refl
same-places [] (e ∷ es) = refl
same-places (d ∷ ds) [] = refl
same-places (d ∷ ds) (e ∷ es) = refl

-- a document is removed
one-removed : (m : Matching) (changed : List ℕ) (one three : List Difference) → changed ≡ places one three → m.removed.items ≡ 1 ∷ [] → outcome_of m changed ≡ Different
one-removed m changed [] [] a b = rw (a, b) refl
one-removed m changed [] (e ∷ es) a b = rw a refl
one-removed m changed (d ∷ ds) [] a b = rw a refl
one-removed m changed (d ∷ ds) (e ∷ es) a b = rw a refl

-- whatever is the report of both texts under rules is this text, where these differences are told between the documents of 1 and of 3
pub report_under : (rules : Rules) (one three : List Difference) → differences_told rules old_one_tree new_one_tree ≡ one → differences_told rules old_three_tree new_three_tree ≡ three
    → (options : DocumentOptions) → AreById options rules → (written : List ℕ) (outcome : Outcome) (r : IsDocumentReportOf options old_text new_text (codes "old.ndjson") (codes "new.ndjson") written outcome)
    → (written ≡ text_with (map told one) (map told three)) × (outcome ≡ Different)
report_under rules one three d1 d3 options by written outcome r = (
  r.text ∙ (ap (λ form. format_text form s m r.changed options.limit) by.format ∙ (ap (λ limit. document_report_text s m r.changed limit) by.limit ∙ whole)),
  r.outcome_is ∙ one-removed m r.changed one three changed found.removed,
)
  where
    s : DocumentSides
    s = r.sides

    m : Matching
    m = r.matching

    are : AreSidesOf options old_text new_text (codes "old.ndjson") (codes "new.ndjson") s
    are = r.sides_are

    left : IsRead s.left s.left_skipped.items old_rows
    left = side_read options rules old_text (codes "old.ndjson") s.left s.left_skipped.items old_one old_two old_three old_rows by lines_of_old rows_of_old are.left

    right : IsRead s.right s.right_skipped.items new_rows
    right = side_read options rules new_text (codes "new.ndjson") s.right s.right_skipped.items new_one new_three new_four new_rows by lines_of_new rows_of_new are.right

    left_lines : left_documents old_text s ≡ old_lines
    left_lines = ap (numbered_lines (lines_of old_text)) left.numbers ∙ ap (λ all. numbered_lines all (1 ∷ 2 ∷ 3 ∷ [])) lines_of_old

    right_lines : right_documents new_text s ≡ new_lines
    right_lines = ap (numbered_lines (lines_of new_text)) right.numbers ∙ ap (λ all. numbered_lines all (1 ∷ 2 ∷ 3 ∷ [])) lines_of_new

    left_keys : document_keys options (left_documents old_text s) ≡ old_keys
    left_keys = ap (row_keys (key_columns options)) (sym are.left.documents.table.rows ∙ left.rows_are) ∙ (ap (λ n. row_keys (range_with_len 0 n) old_rows) (one_key options rules by) ∙ keys_of_old)

    right_keys : document_keys options (right_documents new_text s) ≡ new_keys
    right_keys = ap (row_keys (key_columns options)) (sym are.right.documents.table.rows ∙ right.rows_are) ∙ (ap (λ n. row_keys (range_with_len 0 n) new_rows) (one_key options rules by) ∙ keys_of_new)

    found : IsExampleMatching m
    found = example_matching m (subst (λ keys. IsMatching old_keys keys m) right_keys (subst (λ keys. IsMatching keys (document_keys options (right_documents new_text s)) m) left_keys r.matched))

    tells : ListsRising (TellsAt rules old_lines new_lines (0 ∷ 2 ∷ []) (0 ∷ 1 ∷ [])) 2 r.changed
    tells = subst (λ rights. ListsRising (TellsAt rules old_lines new_lines (0 ∷ 2 ∷ []) rights) 2 r.changed) found.right_rows
        (subst (λ lefts. ListsRising (TellsAt rules old_lines new_lines lefts m.right_rows.items) (length lefts) r.changed) found.left_rows
        (subst (λ all. ListsRising (TellsAt rules old_lines all m.left_rows.items m.right_rows.items) (length m.left_rows.items) r.changed) right_lines
        (subst (λ all. ListsRising (TellsAt rules all (right_documents new_text s) m.left_rows.items m.right_rows.items) (length m.left_rows.items) r.changed) left_lines
        (subst (λ rs. ListsRising (TellsAt rs (left_documents old_text s) (right_documents new_text s) m.left_rows.items m.right_rows.items) (length m.left_rows.items) r.changed) by.told_by r.changed_are))))

    changed : r.changed ≡ places one three
    changed = one_listing (TellsAt rules old_lines new_lines (0 ∷ 2 ∷ []) (0 ∷ 1 ∷ [])) 2 r.changed (places one three) tells
        (changed_listed rules one three (told_one rules one d1) (told_three rules three d3))

    ruled : rules_view s.rules.now ≡ rules
    ruled = ap rules_view are.rules ∙ by.told_by

    whole : document_report_text s m r.changed 20 ≡ text_with (map told one) (map told three)
    whole = example_text s m r.changed (map told one) (map told three) (changed ∙ same-places one three)
        (same_parts _ _ _ _ _ _ _ _ _ _ _ _ _ _ r.changed (are.names ∙ by.names) (are.colored ∙ by.colored) are.left.named are.right.named left.rows_are right.rows_are
        left.numbers right.numbers left.none_skipped right.none_skipped found.left_rows found.right_rows found.removed found.added)
        (changes-are s rules 0 0 old_one new_one one ruled (line-is s.left.table old_rows 0 left.rows_are left.width) (line-is s.right.table new_rows 0 right.rows_are right.width) (told_one rules one d1))
        (changes-are s rules 2 1 old_three new_three three ruled (line-is s.left.table old_rows 2 left.rows_are left.width) (line-is s.right.table new_rows 1 right.rows_are right.width) (told_three rules three d3))

-- n was 2, and is 3
abbrev pub grown : List Difference
grown = record { path = name (codes "n") ∷ []; left = Some (number (codes "2")); right = Some (number (codes "3")) } ∷ []

-- n was null, and is not there
abbrev pub lost : List Difference
lost = record { path = name (codes "n") ∷ []; left = Some null; right = None } ∷ []

-- with the options of dunkelva diff old.ndjson new.ndjson --key id and these rules, whatever is the report of both texts is this one, and it says that they differ
abbrev pub HaveReport : Rules → List ℕ → Type 0
HaveReport rules report = (options : DocumentOptions) → AreById options rules → (written : List ℕ) (outcome : Outcome)
    → IsDocumentReportOf options old_text new_text (codes "old.ndjson") (codes "new.ndjson") written outcome → (written ≡ report) × (outcome ≡ Different)

-- so it is where these differences are told, and are printed so
pub reported : (rules : Rules) (one three : List Difference) (report : List ℕ) → differences_told rules old_one_tree new_one_tree ≡ one → differences_told rules old_three_tree new_three_tree ≡ three
    → text_with (map told one) (map told three) ≡ report → HaveReport rules report
reported rules one three report d1 d3 printed options by written outcome r =
    let both = report_under rules one three d1 d3 options by written outcome r in
    (both.0 ∙ printed, both.1)

told-one : differences_told no_rules old_one_tree new_one_tree ≡ grown
unfolding normal_number number_text digits_text tens_text normal_of decimal_of scan
told-one = refl

told-three : differences_told no_rules old_three_tree new_three_tree ≡ lost
unfolding normal_number number_text digits_text tens_text normal_of decimal_of scan
told-three = refl

both-printed : text_with (map told grown) (map told lost)
    ≡ codes "~ id=1  n 2 -> 3\n~ id=3  n null -> missing\n- id=2  old.ndjson line 2\n+ id=4  new.ndjson line 3\n2 changed, 1 removed, 1 added, 0 the same.\n"
unfolding pair_text listed change_text part_text painted color_text plain_json plain_byte totals_text digits print_from escape_byte
both-printed = refl

-- without rules
the-report : HaveReport no_rules (codes "~ id=1  n 2 -> 3\n~ id=3  n null -> missing\n- id=2  old.ndjson line 2\n+ id=4  new.ndjson line 3\n2 changed, 1 removed, 1 added, 0 the same.\n")
the-report = reported no_rules grown lost _ told-one told-three both-printed
