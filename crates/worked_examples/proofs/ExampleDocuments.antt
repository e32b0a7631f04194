-- Worked example of `IsDocumentReportOf`: a text that is the report of two texts of one document
-- each.
use Rattle.std.proofs.Common.{◌≡◌, ◌≢◌, ◌∙◌, ◌<◌, ℕ, zero, suc, Bool, false, List, [], ◌∷◌}
use Rattle.std.proofs.Common.{◌++◌, map, get_or, arith, ap, subst, sym, refl}
use Rattle.std.proofs.lemmas.List.Elements.{All-cons, All-head, All-nil}
use Rattle.std.specs.Borrow.{Bor}
use Rattle.std.specs.Fmt.{digits}
use Rattle.std.specs.List.{range_with_len}
use Rattle.std.specs.Prelude.{All, IsSome, None, Some, codes, slice_index}
use Rattle.diff_keys.specs.Matching.{IsAdded, IsMatching, IsRemoved}
use Rattle.diff_keys.specs.NthLaws.{found_partners}
use Rattle.diff_keys.specs.Partners.{Keys, ArePartners, count_of}
use Rattle.diff_keys.specs.Rising.{ListsRising}
use Rattle.diff_keys.specs.RisingLaws.{none_listed, one_listed, one_passed}
use Rattle.diff_keys.specs.Unique.{AllDiffer}
use Rattle.diff_keys.specs.Waiting.{nth}
use Rattle.diff_keys.specs.declared.matching.Matching.{Matching}
use Rattle.diff_keys.specs.declared.outcome.Outcome.{Outcome}
use Rattle.diff_keys.specs.declared.outcome.Outcome.TheVariants.{Same, Different}
use Rattle.diff_report.specs.Summary.{rest_text}
use Rattle.diff_tables.specs.Keys.{escaped, row_key, row_keys}
use Rattle.diff_tables.specs.Tables.{TableRows}
use Rattle.diff_words.specs.Colors.{color_text, painted}
use Rattle.diff_words.specs.Lists.{listed}
use Rattle.diff_words.specs.Words.{word_text}
use Rattle.document_report.specs.Documents.{changes_at}
use Rattle.document_report.specs.Forms.{format_text}
use Rattle.document_report.specs.Pairs.{changed_line, pair_line, pair_text}
use Rattle.document_report.specs.Report.{document_report_text}
use Rattle.document_rows.specs.Documents.{IsDocument, document_row, key_cells, tree_of}
use Rattle.document_rows.specs.Lines.{lines_of}
use Rattle.document_rows.specs.Numbers.{AreNumbered, IsNumberOf, numbered_lines}
use Rattle.document_rows.specs.Parts.{IsWanted, is_in}
use Rattle.document_rows.specs.Tables.{AreDocumentsOf, AreDocumentsWith, AreRowsOf}
use Rattle.document_rows.specs.declared.reading.Reading.{Reading}
use Rattle.document_run.proofs.ExampleDocuments.{by_id, new_one, new_one_is, new_one_tree}
use Rattle.document_run.proofs.ExampleDocuments.{new_three_tree, old_one, old_one_is, old_one_tree}
use Rattle.document_run.proofs.ExampleDocuments.{old_three_tree}
use Rattle.document_run.proofs.ExampleDocuments.{new_text as three_new, old_text as three_old}
use Rattle.document_run.proofs.ExampleLines as example_lines
use Rattle.document_run.proofs.ExampleReport.{grown, lost, report_under}
use Rattle.document_run.proofs.ExampleSides.{AreById, one_key, told_one}
use Rattle.document_run.specs.Run.{HasNoDocument, HasOthers, IsDocumentReportOf}
use Rattle.document_run.specs.Run.{document_keys, key_columns, paths_of, rules_of, tree_at}
use Rattle.document_run.specs.declared.options.DocumentOptions.{DocumentOptions}
use Rattle.document_words.specs.Changes.{change_text, part_text}
use Rattle.document_words.specs.Counts.{totals_text}
use Rattle.document_words.specs.Keys.{document_name}
use Rattle.document_words.specs.Numbers.{is_short, plain_digits, value_text}
use Rattle.document_words.specs.Skipped.{skipped_text}
use Rattle.document_words.specs.declared.sides.DocumentSides.{DocumentSides}
use Rattle.fast_float.specs.Text.{scan}
use Rattle.json.proofs.Printed.Utf8.{IsUtf8-are_ascii}
use Rattle.json.specs.Json.{Json, Members, number, object, no_members, member, document}
use Rattle.json.specs.Json.{items, members, value}
use Rattle.json.specs.Lex.{lex, punctuate}
use Rattle.json.specs.Print.{escape_byte, print_from}
use Rattle.json.specs.Text.{content}
use Rattle.json.specs.Word.{after_number, word}
use Rattle.json_changes.specs.Rules.{differences_told, no_rules}
use Rattle.json_changes.specs.Texts.{Told, told}
use Rattle.json_changes.specs.declared.changes.Rules.{Rules}
use Rattle.json_decimals.specs.Decimals.{decimal_of, normal_of}
use Rattle.json_decimals.specs.Texts.{digits_text, normal_number, number_text, tens_text}
use Rattle.json_paths.specs.Paths.{name, part_at}
use Rattle.json_plain.specs.Plain.{plain_byte, plain_json}
use Rattle.worked_examples.proofs.ExampleVectors.{vector}

-- both texts: {"id":1,"n":2} and {"id":1,"n":3}
abbrev old_text : List ℕ
old_text = codes "{\"id\":1,\"n\":2}\n"

abbrev new_text : List ℕ
new_text = codes "{\"id\":1,\"n\":3}\n"

-- what dunkelva diff old.ndjson new.ndjson --key id writes of them
abbrev report : List ℕ
report = codes "~ id=1  n 2 -> 3\n1 changed, 0 removed, 0 added, 0 the same.\n"

lines-old : lines_of old_text ≡ old_one ∷ []
unfolding lines_of
lines-old = refl

lines-new : lines_of new_text ≡ new_one ∷ []
unfolding lines_of
lines-new = refl

-- the members id and n of a document
abbrev members_of : List ℕ → Members
members_of n = member (codes "id") (number (codes "1")) (member (codes "n") (number n) no_members)

old-read : document old_one ≡ Some (object (members_of (codes "2")))
unfolding value items members lex punctuate content word after_number
old-read = refl

new-read : document new_one ≡ Some (object (members_of (codes "3")))
unfolding value items members lex punctuate content word after_number
new-read = refl

-- id and n are not the same name
names-differ : (i j : ℕ) (d : List ℕ) → i < j → j < 2
    → get_or (codes "id" ∷ codes "n" ∷ []) i d ≢ get_or (codes "id" ∷ codes "n" ∷ []) j d
names-differ zero zero d before low e = omega (arith, before)
names-differ zero (suc zero) d before low e =
    let first : 105 ≡ 110 = ap (λ (k : List ℕ). get_or k 0 0) e in
    omega (arith, first)
names-differ (suc i) zero d before low e = omega (arith, before)
names-differ (suc i) (suc zero) d before low e = omega (arith, before)
names-differ i (suc (suc j)) d before low e = omega (arith, low)

-- each line is a document of the key id, however documents are read
old-document : (reading : Reading) → IsDocument reading by_id old_one
unfolding scan
old-document reading = record {
  utf8 = IsUtf8-are_ascii old_one refl;
  members = members_of (codes "2");
  json = old-read;
  unique = (names-differ, (tt, (tt, tt)));
  narrow = (λ wide. omega arith, (λ wide. omega arith, tt));
  keys_there = λ strict. All-cons
      (λ path. IsSome (part_at path (object (members_of (codes "2"))))) (name (codes "id") ∷ []) []
      refl
      (All-nil (λ path. IsSome (part_at path (object (members_of (codes "2"))))));
}

new-document : (reading : Reading) → IsDocument reading by_id new_one
unfolding scan
new-document reading = record {
  utf8 = IsUtf8-are_ascii new_one refl;
  members = members_of (codes "3");
  json = new-read;
  unique = (names-differ, (tt, (tt, tt)));
  narrow = (λ wide. omega arith, (λ wide. omega arith, tt));
  keys_there = λ strict. All-cons
      (λ path. IsSome (part_at path (object (members_of (codes "3"))))) (name (codes "id") ∷ []) []
      refl
      (All-nil (λ path. IsSome (part_at path (object (members_of (codes "3"))))));
}

-- the cell of the key of both
cells-old : key_cells by_id old_one_tree ≡ codes "1" ∷ []
unfolding normal_number number_text digits_text tens_text normal_of decimal_of scan print_from
    escape_byte
cells-old = refl

cells-new : key_cells by_id new_one_tree ≡ codes "1" ∷ []
unfolding normal_number number_text digits_text tens_text normal_of decimal_of scan print_from
    escape_byte
cells-new = refl

row-is : (line : List ℕ) (tree : Json) → tree_of line ≡ tree → key_cells by_id tree ≡ codes "1" ∷ []
    → document_row by_id line ≡ codes "1" ∷ line ∷ []
row-is line tree is cells = ap (λ j. key_cells by_id j ++ line ∷ []) is ∙ ap
    (λ c. c ++ line ∷ []) cells

-- the table of one line
abbrev table_of : List ℕ → TableRows
table_of line = record { width = 2; rows = (codes "1" ∷ line ∷ []) ∷ []; far = false }

-- it is that of a text of this line
one-document : (reading : Reading) (line : List ℕ) → reading.part ≡ None
    → IsDocument reading by_id line → document_row by_id line ≡ codes "1" ∷ line ∷ []
    → (text : List ℕ) → lines_of text ≡ line ∷ []
    → AreDocumentsOf text reading by_id (table_of line) (1 ∷ []) []
one-document reading line whole is row text lines =
    subst (λ all. AreDocumentsWith reading by_id all (table_of line) (1 ∷ []) []) (sym lines)
    (record { numbered = numbered; table = table })
  where
    wanted : IsWanted reading by_id line
    wanted = record { document = is; in_part = ap (λ part. is_in part by_id (tree_of line)) whole }

    numbered : AreNumbered reading by_id (line ∷ []) (1 ∷ []) []
    numbered =
        let P : ℕ → Type 0 = IsNumberOf (IsWanted reading by_id) (line ∷ []) in
        let Q : ℕ → Type 0 = IsNumberOf (λ l. ¬ IsDocument reading by_id l) (line ∷ []) in
        record {
          documents = one_listed P 1 2 []
              (one_passed P 0 1 [] (none_listed P) (λ h. omega (arith, h.0)) refl)
              (omega arith, wanted) refl;
          others = one_passed Q 1 2 []
              (one_passed Q 0 1 [] (none_listed Q) (λ h. omega (arith, h.0)) refl)
              (λ h. h.1 is) refl;
          none_skipped =
              λ strict. All-cons (IsDocument reading by_id) line [] is
              (All-nil (IsDocument reading by_id));
        }

    table : AreRowsOf reading by_id (line ∷ []) (table_of line)
    table = record {
      documents = All-cons (IsWanted reading by_id) line [] wanted
          (All-nil (IsWanted reading by_id));
      width = refl;
      rows = ap (λ r. r ∷ []) (sym row);
    }

-- the sides of both texts, under some rules
abbrev sides_under : Bor Rules → Bool → DocumentSides
sides_under rules skip_bad = record {
  left = record {
    name = vector (codes "old.ndjson") (omega arith);
    table = table_of old_one;
    lines =
        vector (1 ∷ []) (omega arith);
    numbers = None;
  };
  right = record {
    name = vector (codes "new.ndjson") (omega arith);
    table = table_of new_one;
    lines =
        vector (1 ∷ []) (omega arith);
    numbers = None;
  };
  left_skipped = vector [] (omega arith);
  right_skipped = vector [] (omega arith);
  skip_bad = skip_bad;
  keys = vector (vector (codes "id") (omega arith) ∷ []) (omega arith);
  colored = false;
  rules = rules;
}

-- the key of both documents
abbrev one-key : Keys
one-key = (49 ∷ 0 ∷ 0 ∷ []) ∷ []

key-of : (line : List ℕ) → row_keys (0 ∷ []) ((codes "1" ∷ line ∷ []) ∷ []) ≡ one-key
unfolding row_key escaped
key-of line = refl

-- they are partners
abbrev matching : Matching
matching = record {
  left_rows = vector (0 ∷ []) (omega arith);
  right_rows = vector (0 ∷ []) (omega arith);
  removed = vector [] (omega arith);
  added = vector [] (omega arith);
}

pair : ArePartners one-key one-key 0 0
unfolding nth count_of
pair = found_partners one-key one-key 0 (Some 0) (omega arith) refl

matching-is : IsMatching one-key one-key matching
matching-is = record {
  one_length = refl;
  partners = λ k low. at k low;
  all_partners = λ i j partners. found i j partners;
  in_order = λ k low. absurd (omega (arith, low));
  removed =
      let P : ℕ → Type 0 = IsRemoved one-key one-key in
      one_passed P 0 1 [] (none_listed P) (λ gone. gone 0 pair) refl;
  added =
      let P : ℕ → Type 0 = IsAdded one-key one-key in
      one_passed P 0 1 [] (none_listed P) (λ lone. lone 0 pair) refl;
}
  where
    at : (k : ℕ) → k < 1
        → ArePartners one-key one-key (slice_index (0 ∷ []) k) (slice_index (0 ∷ []) k)
    at zero low = pair
    at (suc k) low = absurd (omega (arith, low))

    found : (i j : ℕ) → ArePartners one-key one-key i j → (k : ℕ) × (k < 1)
        × (slice_index (0 ∷ []) k ≡ i) × (slice_index (0 ∷ []) k ≡ j)
    found zero zero partners = (0, omega arith, refl, refl)
    found zero (suc j) partners =
        absurd (let low : suc j < 1 = partners.right_row in omega (arith, low))
    found (suc i) j partners =
        absurd (let low : suc i < 1 = partners.left_row in omega (arith, low))

one-differ : AllDiffer one-key
one-differ i j before low e = omega (arith, before, low)

told-grown : differences_told no_rules old_one_tree new_one_tree ≡ grown
unfolding normal_number number_text digits_text tens_text normal_of decimal_of scan
told-grown = refl

-- the report where these differences are told
abbrev text_with : List Told → List ℕ
text_with changes = (pair_text false (codes "id=1") changes ++ []) ++ [] ++ codes
    "1 changed, 0 removed, 0 added, 0 the same.\n" ++ []

text-of : (rules : Bor Rules) (skip_bad : Bool)
    → document_report_text (sides_under rules skip_bad) matching (0 ∷ []) 20
    ≡ text_with (changes_at (sides_under rules skip_bad) 0 0)
unfolding document_report_text changed_line pair_line document_name listed word_text value_text
    is_short plain_digits scan plain_json
    plain_byte rest_text totals_text skipped_text digits
text-of rules skip_bad = refl

printed : text_with (map told grown) ≡ report
unfolding pair_text listed change_text part_text painted color_text plain_json plain_byte print_from
    escape_byte
printed = refl

-- it is their report, and it says that they differ
old-new-report : (options : DocumentOptions) → AreById options no_rules
    → IsDocumentReportOf options old_text new_text (codes "old.ndjson") (codes "new.ndjson") report
    Different
old-new-report options by = record {
  sides = sides;
  matching = matching;
  changed = 0 ∷ [];
  sides_are = record {
    left = record {
      named = refl;
      documents =
          documents old_one (old-document options.reading)
          (row-is old_one old_one_tree old_one_is cells-old) old_text lines-old;
    };
    right = record {
      named = refl;
      documents =
          documents new_one (new-document options.reading)
          (row-is new_one new_one_tree new_one_is cells-new) new_text lines-new;
    };
    left_some = λ whole. some-document old_text old_one lines-old (old-document options.reading);
    right_some = λ whole. some-document new_text new_one lines-new (new-document options.reading);
    skip_bad = refl;
    names = sym by.names;
    colored = sym by.colored;
    rules = refl;
  };
  matched = subst
      (λ right. IsMatching (document_keys options (numbered_lines (lines_of old_text) (1 ∷ [])))
      right matching) (sym new_keys)
      (subst (λ left. IsMatching left one-key matching) (sym old_keys) matching-is);
  changed_are = listed_changed;
  unique = λ asked. (
    subst AllDiffer (sym old_keys) one-differ,
    subst AllDiffer (sym new_keys)
        one-differ,
  );
  text = sym (ap
      (λ form. format_text form sides matching (0 ∷ []) options.limit) by.format ∙
      (ap (λ limit. document_report_text sides matching (0 ∷ []) limit) by.limit
      ∙ (text-of options.rules options.reading.skip_bad ∙ (ap text_with changes ∙ printed))));
  outcome_is = refl;
}
  where
    sides : DocumentSides
    sides = sides_under options.rules options.reading.skip_bad

    some-document : (text line : List ℕ) → lines_of text ≡ line ∷ []
        → IsDocument options.reading by_id line → ¬ (HasNoDocument options text)
    some-document text line lines is none =
        let P : List ℕ → Type 0 = λ l. ¬ (IsDocument options.reading (paths_of options) l) in
        let all : All P (line ∷ []) = subst (λ ls. All P ls) lines none.1 in
        All-head P line [] all
        (subst (λ keys. IsDocument options.reading keys line) (sym by.keys) is)

    documents : (line : List ℕ) → IsDocument options.reading by_id line → document_row by_id line
        ≡ codes "1" ∷ line ∷ []
        → (text : List ℕ) → lines_of text ≡ line ∷ []
        → AreDocumentsOf text options.reading (paths_of options) (table_of line) (1 ∷ []) []
    documents line is row text lines = subst
        (λ keys. AreDocumentsOf text options.reading keys (table_of line) (1 ∷ []) []) (sym by.keys)
        (one-document options.reading line by.no_part is row text lines)

    keys : (line text : List ℕ) → lines_of text ≡ line ∷ [] → document_row by_id line
        ≡ codes "1" ∷ line ∷ []
        → document_keys options (numbered_lines (lines_of text) (1 ∷ [])) ≡ one-key
    keys line text lines row =
        ap (λ all. document_keys options (numbered_lines all (1 ∷ []))) lines
        ∙ (ap (λ paths. row_keys (key_columns options) (document_row paths line ∷ [])) by.keys
        ∙ (ap (λ r. row_keys (key_columns options) (r ∷ [])) row
        ∙ (ap (λ n. row_keys (range_with_len 0 n) ((codes "1" ∷ line ∷ []) ∷ []))
        (one_key options no_rules by) ∙ key-of line)))

    old_keys : document_keys options (numbered_lines (lines_of old_text) (1 ∷ [])) ≡ one-key
    old_keys = keys old_one old_text lines-old (row-is old_one old_one_tree old_one_is cells-old)

    new_keys : document_keys options (numbered_lines (lines_of new_text) (1 ∷ [])) ≡ one-key
    new_keys = keys new_one new_text lines-new (row-is new_one new_one_tree new_one_is cells-new)

    trees : differences_told (rules_of options) (tree_of old_one) (tree_of new_one) ≡ grown
    trees = ap (λ rules. differences_told rules (tree_of old_one) (tree_of new_one)) by.told_by ∙
        told_one no_rules grown told-grown

    between : differences_told (rules_of options)
        (tree_at (numbered_lines (lines_of old_text) (1 ∷ [])) 0)
        (tree_at (numbered_lines (lines_of new_text) (1 ∷ [])) 0) ≡ grown
    between = ap (λ all. differences_told (rules_of options)
        (tree_at (numbered_lines all (1 ∷ [])) 0)
        (tree_at (numbered_lines (lines_of new_text) (1 ∷ [])) 0)) lines-old
        ∙ (ap (λ all. differences_told (rules_of options) (tree_of old_one)
        (tree_at (numbered_lines all (1 ∷ [])) 0)) lines-new ∙ trees)

    listed_changed :
        ListsRising
        (HasOthers (rules_of options) (numbered_lines (lines_of old_text) (1 ∷ []))
        (numbered_lines (lines_of new_text) (1 ∷ [])) matching) 1 (0 ∷ [])
    listed_changed =
        let P : ℕ → Type 0 =
        HasOthers (rules_of options) (numbered_lines (lines_of old_text) (1 ∷ []))
        (numbered_lines (lines_of new_text) (1 ∷ [])) matching in
        one_listed P 0 1 [] (none_listed P)
        (λ none. let both : grown ≡ [] = sym between ∙ none in absurd (cc both)) refl

    changes : changes_at sides 0 0 ≡ map told grown
    changes = ap (map told) trees

-- ---- the two texts of three documents each of which document_run has examples

told-lost : differences_told no_rules old_three_tree new_three_tree ≡ lost
unfolding normal_number number_text digits_text tens_text normal_of decimal_of scan
told-lost = refl

-- their report begins with ~
first-byte : get_or (example_lines.text_with (map told grown) (map told lost)) 0 0 ≡ 126
unfolding pair_text painted color_text
first-byte = refl

-- no text is their report with the outcome that they are the same
three-not_same : (options : DocumentOptions) → AreById options no_rules → (written : List ℕ)
    → ¬ (IsDocumentReportOf options three_old three_new (codes "old.ndjson") (codes "new.ndjson")
    written Same)
three-not_same options by written r =
    let both = report_under no_rules grown lost told-grown told-lost options by written Same r in
    let clash : Same ≡ Different = both.1 in
    cc

-- and the text that all documents are the same is not their report
three-not_the_same : (options : DocumentOptions) → AreById options no_rules → (outcome : Outcome)
    → ¬ (IsDocumentReportOf options three_old three_new (codes "old.ndjson") (codes "new.ndjson")
    (codes "0 changed, 0 removed, 0 added, 3 the same.\n") outcome)
three-not_the_same options by outcome r =
    let both = report_under no_rules grown lost told-grown told-lost options by
    (codes "0 changed, 0 removed, 0 added, 3 the same.\n") outcome r in
    let clash : 48 ≡ 126 = ap (λ text. get_or text 0 0) both.0 ∙ first-byte in
    omega (arith, clash)
