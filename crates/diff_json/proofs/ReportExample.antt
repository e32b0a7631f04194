-- The worked example of a report as JSON lines: of the two texts of docs/DIFF.md, where id is the key.
use Rattle.std.proofs.Common.{◌≡◌, ◌∙◌, ◌+◌, ◌-◌, ℕ, List, [], ◌∷◌, ◌++◌, length, get_or, map, take, ap, refl}
use Rattle.std.specs.Char.{encode_utf8}
use Rattle.std.specs.Fmt.{digits}
use Rattle.std.specs.List.{concat}
use Rattle.std.specs.Prelude.{Option, None, false, codes, option_map, slice_index}
use Rattle.bstr.proofs.Computing.{computing}
use Rattle.diff_tables.specs.declared.compare.Comparison.{Comparison}
use Rattle.diff_words.specs.Lists.{listed}
use Rattle.diff_report.specs.Naming.{Naming}
use Rattle.diff_report.specs.Pairs.{columns_apart}
use Rattle.diff_report.specs.Sides.{compared_left, compared_right, naming_of, number_in}
use Rattle.diff_report.specs.declared.sides.Sides.{Sides}
use Rattle.diff_json.specs.Cells.{json_cell}
use Rattle.diff_json.specs.Counts.{column_members, counts_object, totals_members}
use Rattle.diff_json.specs.Lines.{changed_object, pair_object, row_object, side_object}
use Rattle.diff_json.specs.Report.{json_text}
use Rattle.diff_json.specs.Strings.{char_text, json_string}

-- what a report of two sides is made of
record Parts : Type 0 where
  naming : Naming
  left_rows : List (List (List ℕ))
  right_rows : List (List (List ℕ))
  left_compared : List (List (List ℕ))
  right_compared : List (List (List ℕ))
  left_lines : List ℕ
  right_lines : List ℕ
  left_numbers : Option (List ℕ)
  right_numbers : Option (List ℕ)
  left_partners : List ℕ
  right_partners : List ℕ
  changed : List ℕ
  removed : List ℕ
  added : List ℕ

abbrev parts_of : Sides → Comparison → Parts
parts_of s c = record {
  naming = naming_of s;
  left_rows = s.left.table.rows;
  right_rows = s.right.table.rows;
  left_compared = compared_left s;
  right_compared = compared_right s;
  left_lines = s.left.lines.items;
  right_lines = s.right.lines.items;
  left_numbers = option_map (λ v. v.items) s.left.numbers;
  right_numbers = option_map (λ v. v.items) s.right.numbers;
  left_partners = c.matching.left_rows.items;
  right_partners = c.matching.right_rows.items;
  changed = c.changed.items;
  removed = c.matching.removed.items;
  added = c.matching.added.items;
}

-- the rows of both texts, each as its cells in the columns id, city and amount
abbrev old_rows : List (List (List ℕ))
old_rows = (codes "1" ∷ codes "Oslo" ∷ codes "12.50" ∷ []) ∷ (codes "2" ∷ codes "Bergen" ∷ codes "3" ∷ []) ∷ (codes "3" ∷ codes "Molde" ∷ codes "1" ∷ []) ∷ []

abbrev new_rows : List (List (List ℕ))
new_rows = (codes "1" ∷ codes "Bergen" ∷ codes "12.75" ∷ []) ∷ (codes "3" ∷ codes "Molde" ∷ codes "1" ∷ []) ∷ (codes "4" ∷ codes "Hamar" ∷ codes "9" ∷ []) ∷ []

-- the rows of 1 and of 3 are partners, of which the first two differ; that of 2 is removed, and that of 4 added
abbrev parts : Parts
parts = record {
  naming = record { names = codes "id" ∷ codes "city" ∷ codes "amount" ∷ []; keys = 0 ∷ []; null = None; colored = false };
  left_rows = old_rows;
  right_rows = new_rows;
  left_compared = old_rows;
  right_compared = new_rows;
  left_lines = 2 ∷ 3 ∷ 4 ∷ [];
  right_lines = 2 ∷ 3 ∷ 4 ∷ [];
  left_numbers = None;
  right_numbers = None;
  left_partners = 0 ∷ 2 ∷ [];
  right_partners = 0 ∷ 1 ∷ [];
  changed = 0 ∷ [];
  removed = 1 ∷ [];
  added = 2 ∷ [];
}

-- the line of pair k of the partners
abbrev pair_of : Parts → ℕ → List ℕ
pair_of p k =
    let i : ℕ = slice_index p.left_partners k in
    let j : ℕ = slice_index p.right_partners k in
    pair_object p.naming (columns_apart (length p.naming.names) (get_or p.left_compared i []) (get_or p.right_compared j [])) (number_in p.left_numbers i) (slice_index p.left_lines i) (get_or p.left_rows i []) (number_in p.right_numbers j) (slice_index p.right_lines j) (get_or p.right_rows j [])

-- the lines of all differences
abbrev lines_of : Parts → List (List ℕ)
lines_of p = map (pair_of p) p.changed ++ map (λ i. row_object (codes "removed") p.naming (number_in p.left_numbers i) (slice_index p.left_lines i) (get_or p.left_rows i [])) p.removed
    ++ map (λ i. row_object (codes "added") p.naming (number_in p.right_numbers i) (slice_index p.right_lines i) (get_or p.right_rows i [])) p.added

-- the line with the counts
abbrev last_of : Parts → List ℕ → ℕ → List ℕ
last_of p counts limit = codes "{\"kind\":\"counts\"," ++ totals_members (length p.changed) (length p.removed) (length p.added) (length p.left_partners - length p.changed) ((length p.changed + length p.removed + length p.added) - limit)
    ++ codes ",\"columns\":{" ++ column_members p.naming.names counts ++ codes "}}\n"

-- the whole report
abbrev text_of : Parts → List ℕ → ℕ → List ℕ
text_of p counts limit = concat (take limit (lines_of p)) ++ last_of p counts limit

text-is : (s : Sides) (c : Comparison) (counts : List ℕ) (limit : ℕ) → json_text s c counts limit ≡ text_of (parts_of s c) counts limit
unfolding json_text changed_object side_object counts_object
text-is s c counts limit = refl

all-lines : text_of parts (0 ∷ 1 ∷ 1 ∷ []) 20
    ≡ codes "{\"kind\":\"changed\",\"key\":{\"id\":\"1\"},\"left_row\":1,\"right_row\":1,\"left_line\":2,\"right_line\":2,\"changes\":{\"city\":{\"left\":\"Oslo\",\"right\":\"Bergen\"},\"amount\":{\"left\":\"12.50\",\"right\":\"12.75\"}}}\n"
    ++ codes "{\"kind\":\"removed\",\"key\":{\"id\":\"2\"},\"row\":2,\"line\":3}\n"
    ++ codes "{\"kind\":\"added\",\"key\":{\"id\":\"4\"},\"row\":3,\"line\":4}\n"
    ++ codes "{\"kind\":\"counts\",\"changed\":1,\"removed\":1,\"added\":1,\"same\":1,\"not_shown\":0,\"columns\":{\"city\":1,\"amount\":1}}\n"
unfolding pair_object row_object totals_members listed json_cell json_string char_text encode_utf8 computing digits
all-lines = refl

no-lines : text_of parts (0 ∷ 1 ∷ 1 ∷ []) 0 ≡ codes "{\"kind\":\"counts\",\"changed\":1,\"removed\":1,\"added\":1,\"same\":1,\"not_shown\":3,\"columns\":{\"city\":1,\"amount\":1}}\n"
unfolding totals_members listed json_cell json_string char_text encode_utf8 computing digits
no-lines = refl

-- so the report of such sides has these lines
report-of-both : (s : Sides) (c : Comparison) → parts_of s c ≡ parts → json_text s c (0 ∷ 1 ∷ 1 ∷ []) 20
    ≡ codes "{\"kind\":\"changed\",\"key\":{\"id\":\"1\"},\"left_row\":1,\"right_row\":1,\"left_line\":2,\"right_line\":2,\"changes\":{\"city\":{\"left\":\"Oslo\",\"right\":\"Bergen\"},\"amount\":{\"left\":\"12.50\",\"right\":\"12.75\"}}}\n"
    ++ codes "{\"kind\":\"removed\",\"key\":{\"id\":\"2\"},\"row\":2,\"line\":3}\n"
    ++ codes "{\"kind\":\"added\",\"key\":{\"id\":\"4\"},\"row\":3,\"line\":4}\n"
    ++ codes "{\"kind\":\"counts\",\"changed\":1,\"removed\":1,\"added\":1,\"same\":1,\"not_shown\":0,\"columns\":{\"city\":1,\"amount\":1}}\n"
report-of-both s c same = text-is s c (0 ∷ 1 ∷ 1 ∷ []) 20 ∙ (ap (λ p. text_of p (0 ∷ 1 ∷ 1 ∷ []) 20) same ∙ all-lines)
