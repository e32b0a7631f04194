-- The worked example of a report: its lines, whatever is told between the documents of one key.
use Rattle.std.proofs.Common.{◌≡◌, ◌∙◌, ◌-◌, ℕ, Bool, List, [], ◌∷◌, ◌++◌, length, get_or, map, take, ap, append-nil, refl}
use Rattle.std.specs.Fmt.{digits}
use Rattle.std.specs.List.{concat}
use Rattle.std.specs.Prelude.{false, codes, slice_index}
use Rattle.diff_keys.specs.declared.matching.Matching.{Matching}
use Rattle.diff_report.specs.Lines.{mark_color}
use Rattle.diff_report.specs.Summary.{rest_text}
use Rattle.diff_words.specs.Colors.{color_text, painted}
use Rattle.diff_words.specs.Lists.{listed}
use Rattle.diff_words.specs.Words.{word_text}
use Rattle.document_report.specs.Documents.{changes_at}
use Rattle.document_report.specs.Pairs.{changed_line, pair_line, pair_text}
use Rattle.document_report.specs.Report.{document_report_text}
use Rattle.document_words.specs.Counts.{totals_text}
use Rattle.document_words.specs.Keys.{document_name}
use Rattle.document_words.specs.Lines.{alone_line, alone_text}
use Rattle.document_words.specs.Numbers.{is_short, plain_digits, value_text}
use Rattle.document_words.specs.Sides as words
use Rattle.document_words.specs.Skipped.{skipped_text}
use Rattle.document_words.specs.declared.sides.DocumentSides.{DocumentSides}
use Rattle.fast_float.specs.Text.{scan}
use Rattle.json_changes.specs.Texts.{Told}
use Rattle.json_plain.specs.Plain.{plain_byte, plain_json}
use Rattle.document_run.proofs.ExampleDocuments.{new_rows, old_rows}

-- what a report of two sides is made of, but for what is told between two documents
pub record Parts : Type 0 where
  pub names : List (List ℕ)
  pub colored : Bool
  pub left_name : List ℕ
  pub right_name : List ℕ
  pub left_rows : List (List (List ℕ))
  pub right_rows : List (List (List ℕ))
  pub left_lines : List ℕ
  pub right_lines : List ℕ
  pub left_skipped : List ℕ
  pub right_skipped : List ℕ
  pub left_partners : List ℕ
  pub right_partners : List ℕ
  pub changed : List ℕ
  pub removed : List ℕ
  pub added : List ℕ

-- those of the two texts, of whose partners these are changed
abbrev pub parts : List ℕ → Parts
parts changed = record {
  names = codes "id" ∷ [];
  colored = false;
  left_name = codes "old.ndjson";
  right_name = codes "new.ndjson";
  left_rows = old_rows;
  right_rows = new_rows;
  left_lines = 1 ∷ 2 ∷ 3 ∷ [];
  right_lines = 1 ∷ 2 ∷ 3 ∷ [];
  left_skipped = [];
  right_skipped = [];
  left_partners = 0 ∷ 2 ∷ [];
  right_partners = 0 ∷ 1 ∷ [];
  changed = changed;
  removed = 1 ∷ [];
  added = 2 ∷ [];
}

-- which of the two partners are changed, where these differences are told between the documents of 1 and between those of 3
abbrev pub places : {A : Type 0} → List A → List A → List ℕ
places [] [] = []
places [] (d ∷ ds) = 1 ∷ []
places (d ∷ ds) [] = 0 ∷ []
places (d ∷ ds) (e ∷ es) = 0 ∷ 1 ∷ []

-- the line of two documents of this name, where a difference is told
abbrev pub line_of : List ℕ → List Told → List (List ℕ)
line_of name [] = []
line_of name (t ∷ ts) = pair_text false name (t ∷ ts) ∷ []

-- the lines of all differences, where these are told
abbrev pub lines_with : List Told → List Told → List (List ℕ)
lines_with one three = line_of (codes "id=1") one ++ line_of (codes "id=3") three ++ codes "- id=2  old.ndjson line 2\n" ∷ codes "+ id=4  new.ndjson line 3\n" ∷ []

-- the report where these differences are told
abbrev pub text_with : List Told → List Told → List ℕ
text_with one three = concat (lines_with one three) ++ totals_text (length (places one three)) 1 1 (2 - length (places one three))

-- the line of pair k of the partners
abbrev pair_of : Parts → (ℕ → ℕ → List Told) → ℕ → List ℕ
pair_of p between k =
    let i : ℕ = slice_index p.left_partners k in
    pair_text p.colored (document_name p.names i (get_or p.left_rows i [])) (between i (slice_index p.right_partners k))

-- the line of row i of one side
abbrev alone_of : Parts → ℕ → List ℕ → List (List (List ℕ)) → List ℕ → ℕ → List ℕ
alone_of p mark name rows lines i = painted p.colored (mark_color mark) (alone_text mark (document_name p.names i (get_or rows i [])) name (slice_index lines i)) ++ 10 ∷ []

-- the lines of all differences
abbrev lines_of : Parts → (ℕ → ℕ → List Told) → List (List ℕ)
lines_of p between = map (pair_of p between) p.changed ++ map (alone_of p 45 p.left_name p.left_rows p.left_lines) p.removed ++ map (alone_of p 43 p.right_name p.right_rows p.right_lines) p.added

-- the report that has these lines, at most so many of them
abbrev text_of : Parts → List (List ℕ) → ℕ → List ℕ
text_of p lines limit = concat (take limit lines) ++ rest_text limit (length lines) ++ totals_text (length p.changed) (length p.removed) (length p.added) (length p.left_partners - length p.changed)
    ++ (skipped_text p.left_name p.left_skipped ++ skipped_text p.right_name p.right_skipped)

lines-with : (between : ℕ → ℕ → List Told) (one three : List Told) → between 0 0 ≡ one → between 2 1 ≡ three → lines_of (parts (places one three)) between ≡ lines_with one three
unfolding document_name alone_text listed word_text value_text is_short plain_digits scan painted color_text plain_json plain_byte digits
lines-with between [] [] a b = refl
lines-with between [] (e ∷ es) a b = rw b refl
lines-with between (d ∷ ds) [] a b = rw a refl
lines-with between (d ∷ ds) (e ∷ es) a b = rw (a, b) refl

-- no line is left out
all-taken : (one three : List Told) → take 20 (lines_with one three) ≡ lines_with one three
all-taken [] [] = refl
all-taken [] (e ∷ es) = refl
all-taken (d ∷ ds) [] = refl
all-taken (d ∷ ds) (e ∷ es) = refl

none-left : (one three : List Told) → rest_text 20 (length (lines_with one three)) ≡ []
unfolding rest_text
none-left [] [] = refl
none-left [] (e ∷ es) = refl
none-left (d ∷ ds) [] = refl
none-left (d ∷ ds) (e ∷ es) = refl

text-with : (one three : List Told) → text_of (parts (places one three)) (lines_with one three) 20 ≡ text_with one three
unfolding skipped_text
text-with one three =
    let lines = lines_with one three in
    let totals = totals_text (length (places one three)) 1 1 (2 - length (places one three)) in
    ap (λ l. concat l ++ rest_text 20 (length lines) ++ totals ++ []) (all-taken one three)
    ∙ (ap (λ r. concat lines ++ r ++ totals ++ []) (none-left one three) ∙ (append-nil (concat lines ++ [] ++ totals) ∙ ap (λ l. l ++ totals) (append-nil (concat lines))))

-- what the report of two sides is made of
abbrev pub parts_of : DocumentSides → Matching → List ℕ → Parts
parts_of s m changed = record {
  names = words.names_of s;
  colored = s.colored;
  left_name = s.left.name.items;
  right_name = s.right.name.items;
  left_rows = s.left.table.rows;
  right_rows = s.right.table.rows;
  left_lines = s.left.lines.items;
  right_lines = s.right.lines.items;
  left_skipped = s.left_skipped.items;
  right_skipped = s.right_skipped.items;
  left_partners = m.left_rows.items;
  right_partners = m.right_rows.items;
  changed = changed;
  removed = m.removed.items;
  added = m.added.items;
}

pub same_parts : (names : List (List ℕ)) (colored : Bool) (left_name right_name : List ℕ) (left_rows right_rows : List (List (List ℕ))) (left_lines right_lines left_skipped right_skipped left_partners right_partners removed added changed : List ℕ)
    → names ≡ codes "id" ∷ [] → colored ≡ false → left_name ≡ codes "old.ndjson" → right_name ≡ codes "new.ndjson" → left_rows ≡ old_rows → right_rows ≡ new_rows
    → left_lines ≡ 1 ∷ 2 ∷ 3 ∷ [] → right_lines ≡ 1 ∷ 2 ∷ 3 ∷ [] → left_skipped ≡ [] → right_skipped ≡ [] → left_partners ≡ 0 ∷ 2 ∷ [] → right_partners ≡ 0 ∷ 1 ∷ [] → removed ≡ 1 ∷ [] → added ≡ 2 ∷ []
    → ◌≡◌ {A = Parts} (record {
      names = names;
      colored = colored;
      left_name = left_name;
      right_name = right_name;
      left_rows = left_rows;
      right_rows = right_rows;
      left_lines = left_lines;
      right_lines = right_lines;
      left_skipped = left_skipped;
      right_skipped = right_skipped;
      left_partners = left_partners;
      right_partners = right_partners;
      changed = changed;
      removed = removed;
      added = added;
    }) (parts changed)
same_parts names colored left_name right_name left_rows right_rows left_lines right_lines left_skipped right_skipped left_partners right_partners removed added changed a b c d e f g h i j k l m n =
    rw (a, b, c, d, e, f, g, h, i, j, k, l, m, n) refl

text-is : (s : DocumentSides) (m : Matching) (changed : List ℕ) (limit : ℕ) → document_report_text s m changed limit ≡ text_of (parts_of s m changed) (lines_of (parts_of s m changed) (changes_at s)) limit
unfolding document_report_text changed_line pair_line alone_line
text-is s m changed limit = refl

-- a report that is made of the parts of the two texts
pub example_text : (s : DocumentSides) (m : Matching) (changed : List ℕ) (one three : List Told) → changed ≡ places one three → parts_of s m changed ≡ parts changed
    → changes_at s 0 0 ≡ one → changes_at s 2 1 ≡ three → document_report_text s m changed 20 ≡ text_with one three
example_text s m changed one three are same first second =
    text-is s m changed 20 ∙ (ap (λ p. text_of p (lines_of p (changes_at s)) 20) (same ∙ ap parts are)
    ∙ (ap (λ l. text_of (parts (places one three)) l 20) (lines-with (changes_at s) one three first second) ∙ text-with one three))
