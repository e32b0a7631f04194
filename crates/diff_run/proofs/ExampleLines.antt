-- The worked example of a report: its lines.
use Rattle.std.proofs.Common.{◌≡◌, ◌∙◌, ◌-◌, ◌==◌, ℕ, Bool, List, [], ◌∷◌, ◌++◌, length, get_or, map, take, ap, refl}
use Rattle.std.specs.Fmt.{decimal, digits}
use Rattle.std.specs.List.{concat, count_by, range_with_len}
use Rattle.std.specs.Prelude.{Option, None, false, codes, if◌then◌else◌, slice_index}
use Rattle.diff_report.specs.Counts.{column_counts}
use Rattle.diff_report.specs.Lines.{changed_line, mark_color, pair_line, side_line, side_text}
use Rattle.diff_report.specs.Naming.{Naming}
use Rattle.diff_report.specs.Pairs.{columns_apart, differ_at}
use Rattle.diff_report.specs.Report.{report_text}
use Rattle.diff_report.specs.Rows.{row_text}
use Rattle.diff_report.specs.Sides.{compared_left, compared_right, naming_of}
use Rattle.diff_report.specs.Summary.{by_column, rest_text, summary_text, totals_text}
use Rattle.diff_report.specs.declared.sides.Sides.{Sides}
use Rattle.diff_tables.specs.declared.compare.Comparison.{Comparison}
use Rattle.diff_words.specs.Cells.{cell_text}
use Rattle.diff_words.specs.Colors.{color_text, painted}
use Rattle.diff_words.specs.Lists.{listed}
use Rattle.diff_words.specs.Quoted.{byte_text, quoted}
use Rattle.diff_words.specs.Words.{word_text}
use Rattle.diff_run.proofs.ExampleColumns.{old_names}
use Rattle.diff_run.proofs.ExampleRows.{new_rows, old_rows}

-- what rows and cells are named by
abbrev pub naming : Naming
naming = record { names = old_names; keys = 0 ∷ []; null = None; colored = false }

pub same_naming : (names : List (List ℕ)) (keys : List ℕ) (null : Option (List ℕ)) (colored : Bool)
    → names ≡ old_names → keys ≡ 0 ∷ [] → null ≡ None → colored ≡ false → ◌≡◌ {A = Naming} (record { names = names; keys = keys; null = null; colored = colored }) naming
same_naming names keys null colored a b c d = rw (a, b, c, d) refl

-- what a report of two sides is made of
pub record Parts : Type 0 where
  pub naming : Naming
  pub left_name : List ℕ
  pub right_name : List ℕ
  pub left_rows : List (List (List ℕ))
  pub right_rows : List (List (List ℕ))
  pub left_compared : List (List (List ℕ))
  pub right_compared : List (List (List ℕ))
  pub left_lines : List ℕ
  pub right_lines : List ℕ
  pub left_partners : List ℕ
  pub right_partners : List ℕ
  pub changed : List ℕ
  pub removed : List ℕ
  pub added : List ℕ

-- those of the two texts, in which each row has the line at which it begins
abbrev pub parts : Parts
parts = record {
  naming = naming;
  left_name = codes "old.csv";
  right_name = codes "new.csv";
  left_rows = old_rows;
  right_rows = new_rows;
  left_compared = old_rows;
  right_compared = new_rows;
  left_lines = 2 ∷ 3 ∷ 4 ∷ [];
  right_lines = 2 ∷ 3 ∷ 4 ∷ [];
  left_partners = 0 ∷ 2 ∷ [];
  right_partners = 0 ∷ 1 ∷ [];
  changed = 0 ∷ [];
  removed = 1 ∷ [];
  added = 2 ∷ [];
}

-- the line of pair k of the partners
abbrev pair_of : Parts → ℕ → List ℕ
pair_of p k =
    let i : ℕ = slice_index p.left_partners k in
    let j : ℕ = slice_index p.right_partners k in
    pair_line p.naming (columns_apart (length p.naming.names) (get_or p.left_compared i []) (get_or p.right_compared j [])) i (get_or p.left_rows i []) (get_or p.right_rows j [])

-- the line of row i of one side
abbrev row_of : Naming → ℕ → List ℕ → List (List (List ℕ)) → List ℕ → ℕ → List ℕ
row_of n mark name rows lines i =
    painted n.colored (mark_color mark) (mark ∷ 32 ∷ [] ++ row_text n i (get_or rows i []) ++ codes "  " ++ word_text name ++ codes " line " ++ decimal (slice_index lines i)) ++ 10 ∷ []

-- how often each column differs
abbrev pub counts_of : Parts → List ℕ
counts_of p = map
    (λ column. count_by (λ k. differ_at (get_or p.left_compared (slice_index p.left_partners k) []) (get_or p.right_compared (slice_index p.right_partners k) []) column) p.changed)
    (range_with_len 0 (length p.naming.names))

-- the last line
abbrev last_of : Parts → List ℕ → List ℕ
last_of p counts = (decimal (length p.changed) ++ codes " changed, " ++ decimal (length p.removed) ++ codes " removed, " ++ decimal (length p.added) ++ codes " added, "
    ++ decimal (length p.left_partners - length p.changed) ++ codes " the same.") ++ (if length p.changed == 0 then [] else by_column p.naming.names counts) ++ 10 ∷ []

-- the lines of all differences
abbrev lines_of : Parts → List (List ℕ)
lines_of p = map (pair_of p) p.changed ++ map (row_of p.naming 45 p.left_name p.left_rows p.left_lines) p.removed ++ map (row_of p.naming 43 p.right_name p.right_rows p.right_lines) p.added

-- the whole report
abbrev pub text_of : Parts → List ℕ → List ℕ
text_of p counts = concat (take 20 (lines_of p)) ++ rest_text 20 (length (lines_of p)) ++ last_of p counts

pub counted : counts_of parts ≡ 0 ∷ 1 ∷ 1 ∷ []
counted = refl

pub printed : text_of parts (0 ∷ 1 ∷ 1 ∷ [])
    ≡ codes "~ id=1  city \"Oslo\" -> \"Bergen\", amount \"12.50\" -> \"12.75\"\n- id=2  old.csv line 3\n+ id=4  new.csv line 4\n1 changed, 1 removed, 1 added, 1 the same.  By column: city 1, amount 1.\n"
unfolding row_text listed word_text cell_text quoted byte_text painted color_text digits rest_text by_column
printed = refl

-- what the report of two sides is made of
abbrev pub parts_of : Sides → Comparison → Parts
parts_of s c = record {
  naming = naming_of s;
  left_name = s.left.name.items;
  right_name = s.right.name.items;
  left_rows = s.left.table.rows;
  right_rows = s.right.table.rows;
  left_compared = compared_left s;
  right_compared = compared_right s;
  left_lines = s.left.lines.items;
  right_lines = s.right.lines.items;
  left_partners = c.matching.left_rows.items;
  right_partners = c.matching.right_rows.items;
  changed = c.changed.items;
  removed = c.matching.removed.items;
  added = c.matching.added.items;
}

pub same_parts : (n : Naming) (left_name right_name : List ℕ) (left_rows right_rows left_compared right_compared : List (List (List ℕ))) (left_lines right_lines left_partners right_partners changed removed added : List ℕ)
    → n ≡ naming → left_name ≡ codes "old.csv" → right_name ≡ codes "new.csv" → left_rows ≡ old_rows → right_rows ≡ new_rows → left_compared ≡ old_rows → right_compared ≡ new_rows
    → left_lines ≡ 2 ∷ 3 ∷ 4 ∷ [] → right_lines ≡ 2 ∷ 3 ∷ 4 ∷ [] → left_partners ≡ 0 ∷ 2 ∷ [] → right_partners ≡ 0 ∷ 1 ∷ [] → changed ≡ 0 ∷ [] → removed ≡ 1 ∷ [] → added ≡ 2 ∷ []
    → ◌≡◌ {A = Parts} (record {
      naming = n;
      left_name = left_name;
      right_name = right_name;
      left_rows = left_rows;
      right_rows = right_rows;
      left_compared = left_compared;
      right_compared = right_compared;
      left_lines = left_lines;
      right_lines = right_lines;
      left_partners = left_partners;
      right_partners = right_partners;
      changed = changed;
      removed = removed;
      added = added;
    }) parts
same_parts n left_name right_name left_rows right_rows left_compared right_compared left_lines right_lines left_partners right_partners changed removed added a b c d e f g h i j k l m o =
    rw (a, b, c, d, e, f, g, h, i, j, k, l, m, o) refl

counts-are : (s : Sides) (c : Comparison) → column_counts s c.matching c.changed.items ≡ counts_of (parts_of s c)
counts-are s c = refl

text-is : (s : Sides) (c : Comparison) (counts : List ℕ) → report_text s c counts 20 ≡ text_of (parts_of s c) counts
unfolding report_text changed_line side_line side_text summary_text totals_text
text-is s c counts = refl

-- a report that is made of the parts of the two texts is printed
pub example_text : (s : Sides) (c : Comparison) → parts_of s c ≡ parts → report_text s c (column_counts s c.matching c.changed.items) 20
    ≡ codes "~ id=1  city \"Oslo\" -> \"Bergen\", amount \"12.50\" -> \"12.75\"\n- id=2  old.csv line 3\n+ id=4  new.csv line 4\n1 changed, 1 removed, 1 added, 1 the same.  By column: city 1, amount 1.\n"
example_text s c same =
    ap (λ counts. report_text s c counts 20) (counts-are s c ∙ (ap counts_of same ∙ counted)) ∙ (text-is s c (0 ∷ 1 ∷ 1 ∷ []) ∙ (ap (λ p. text_of p (0 ∷ 1 ∷ 1 ∷ [])) same ∙ printed))
