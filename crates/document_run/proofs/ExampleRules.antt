-- The worked example of a report: what it is under rules.
use Rattle.std.proofs.Common.{◌≡◌, [], ◌∷◌, map, refl}
use Rattle.std.specs.Fmt.{digits}
use Rattle.std.specs.Prelude.{false, true, codes}
use Rattle.fast_float.specs.Text.{scan}
use Rattle.diff_words.specs.Colors.{color_text, painted}
use Rattle.diff_words.specs.Lists.{listed}
use Rattle.document_report.specs.Pairs.{pair_text}
use Rattle.document_words.specs.Changes.{change_text, part_text}
use Rattle.document_words.specs.Counts.{totals_text}
use Rattle.json.specs.Print.{escape_byte, print_from}
use Rattle.json_changes.specs.Rules.{Rules, differences_told}
use Rattle.json_changes.specs.Texts.{told}
use Rattle.json_decimals.specs.Decimals.{decimal_of, normal_of}
use Rattle.json_decimals.specs.Texts.{digits_text, normal_number, number_text, tens_text}
use Rattle.json_paths.specs.Paths.{name}
use Rattle.json_paths.specs.Patterns.{Pattern, exactly}
use Rattle.json_plain.specs.Plain.{plain_byte, plain_json}
use Rattle.json_tolerances.specs.declared.closeness.Margin.TheVariants.{Absolute}
use Rattle.document_run.proofs.ExampleDocuments.{new_one_tree, new_three_tree, old_one_tree, old_three_tree}
use Rattle.document_run.proofs.ExampleLines.{text_with}
use Rattle.document_run.proofs.ExampleReport.{HaveReport, grown, lost, reported}

abbrev id : Pattern
id = exactly (name (codes "id")) ∷ []

abbrev n : Pattern
n = exactly (name (codes "n")) ∷ []

-- what is printed where nothing is told, and where one of the two differences is
none-printed : text_with [] [] ≡ codes "- id=2  old.ndjson line 2\n+ id=4  new.ndjson line 3\n0 changed, 1 removed, 1 added, 2 the same.\n"
unfolding totals_text digits
none-printed = refl

grown-printed : text_with (map told grown) [] ≡ codes "~ id=1  n 2 -> 3\n- id=2  old.ndjson line 2\n+ id=4  new.ndjson line 3\n1 changed, 1 removed, 1 added, 1 the same.\n"
unfolding pair_text listed change_text part_text painted color_text plain_json plain_byte totals_text digits print_from escape_byte
grown-printed = refl

lost-printed : text_with [] (map told lost) ≡ codes "~ id=3  n null -> missing\n- id=2  old.ndjson line 2\n+ id=4  new.ndjson line 3\n1 changed, 1 removed, 1 added, 1 the same.\n"
unfolding pair_text listed change_text part_text painted color_text plain_json plain_byte totals_text digits print_from escape_byte
lost-printed = refl

-- ---- --ignore n

abbrev ignoring : Rules
ignoring = record { ignored = n ∷ []; only = []; missing_is_null = false; tolerances = [] }

one-ignored : differences_told ignoring old_one_tree new_one_tree ≡ []
unfolding normal_number number_text digits_text tens_text normal_of decimal_of scan
one-ignored = refl

three-ignored : differences_told ignoring old_three_tree new_three_tree ≡ []
unfolding normal_number number_text digits_text tens_text normal_of decimal_of scan
three-ignored = refl

-- documents that one text has alone are told even so
report-ignored : HaveReport ignoring (codes "- id=2  old.ndjson line 2\n+ id=4  new.ndjson line 3\n0 changed, 1 removed, 1 added, 2 the same.\n")
report-ignored = reported ignoring [] [] _ one-ignored three-ignored none-printed

-- ---- --only id

abbrev asking : Rules
asking = record { ignored = []; only = id ∷ []; missing_is_null = false; tolerances = [] }

one-not-asked : differences_told asking old_one_tree new_one_tree ≡ []
unfolding normal_number number_text digits_text tens_text normal_of decimal_of scan
one-not-asked = refl

three-not-asked : differences_told asking old_three_tree new_three_tree ≡ []
unfolding normal_number number_text digits_text tens_text normal_of decimal_of scan
three-not-asked = refl

report-asked : HaveReport asking (codes "- id=2  old.ndjson line 2\n+ id=4  new.ndjson line 3\n0 changed, 1 removed, 1 added, 2 the same.\n")
report-asked = reported asking [] [] _ one-not-asked three-not-asked none-printed

-- ---- --missing-is-null

abbrev merging : Rules
merging = record { ignored = []; only = []; missing_is_null = true; tolerances = [] }

one-grown : differences_told merging old_one_tree new_one_tree ≡ grown
unfolding normal_number number_text digits_text tens_text normal_of decimal_of scan
one-grown = refl

three-merged : differences_told merging old_three_tree new_three_tree ≡ []
unfolding normal_number number_text digits_text tens_text normal_of decimal_of scan
three-merged = refl

report-merged : HaveReport merging (codes "~ id=1  n 2 -> 3\n- id=2  old.ndjson line 2\n+ id=4  new.ndjson line 3\n1 changed, 1 removed, 1 added, 1 the same.\n")
report-merged = reported merging grown [] _ one-grown three-merged grown-printed

-- ---- --tolerance n=1

abbrev near : Rules
near = record { ignored = []; only = []; missing_is_null = false; tolerances = record { pattern = n; margin = Absolute (decimal_of (codes "1")) } ∷ [] }

one-near : differences_told near old_one_tree new_one_tree ≡ []
unfolding normal_number number_text digits_text tens_text normal_of decimal_of scan
one-near = refl

three-lost : differences_told near old_three_tree new_three_tree ≡ lost
unfolding normal_number number_text digits_text tens_text normal_of decimal_of scan
three-lost = refl

report-near : HaveReport near (codes "~ id=3  n null -> missing\n- id=2  old.ndjson line 2\n+ id=4  new.ndjson line 3\n1 changed, 1 removed, 1 added, 1 the same.\n")
report-near = reported near [] lost _ one-near three-lost lost-printed

-- ---- --tolerance n=0.5

abbrev nearer : Rules
nearer = record { ignored = []; only = []; missing_is_null = false; tolerances = record { pattern = n; margin = Absolute (decimal_of (codes "0.5")) } ∷ [] }

one-not-near : differences_told nearer old_one_tree new_one_tree ≡ grown
unfolding normal_number number_text digits_text tens_text normal_of decimal_of scan
one-not-near = refl
