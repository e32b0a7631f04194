-- Lines are read back.
use Rattle.std.proofs.Common.{◌≡◌, ℕ, ◌<◌, ◌≤◌, ◌^◌, Bool, true, false, cond, List, [], ◌∷◌, ◌++◌, Option, Some, length, get_or, map, refl, sym, ap, ap₂, subst, ◌∙◌, arith, append_assoc}
use Rattle.std.specs.Fmt.{decimal}
use Rattle.std.specs.List.{flat_map}
use Rattle.std.specs.Prelude.{◌-◌, codes, slice_index}
use Rattle.std.specs.Char.{encode_utf8}
use Rattle.std.specs.Str.Lossy.{utf8_lossy}
use Rattle.bstr.proofs.Computing.{computing}
use Rattle.json.specs.Json.{Json, null, number, string, object, Members, no_members, member, document}
use Rattle.json.specs.Tree.{depth, members_depth}
use Rattle.diff_words.specs.Lists.{listed}
use Rattle.diff_columns.specs.declared.error.Side.{Side}
use Rattle.diff_columns.specs.declared.error.Side.TheVariants.{Left, Right}
use Rattle.diff_tables.specs.declared.compare.Comparison.{Comparison}
use Rattle.diff_words.specs.Cells.{is_null}
use Rattle.diff_report.specs.Naming.{Naming}
use Rattle.diff_report.specs.Summary.{columns_counted}
use Rattle.diff_json.specs.Cells.{json_cell}
use Rattle.diff_json.specs.Changes.{change_member, change_members}
use Rattle.diff_json.specs.Keys.{key_members}
use Rattle.diff_json.specs.Columns.{column_object}
use Rattle.diff_json.specs.Counts.{column_members, counts_object, difference_count, totals_members}
use Rattle.diff_json.specs.Laws.{cell_value, change_value, changes_value, column_value, columns_value, counts_value, key_value, members_of, pair_value, row_value}
use Rattle.diff_json.specs.Lines.{pair_object, row_object}
use Rattle.diff_json.specs.Strings.{char_text, json_string}
use Rattle.diff_json.proofs.ReadLaws.{Reads, depth_within, line_read, member_text, null_reads, number_reads, object_reads, string_reads}

-- a member: a name that is written as it is, and a value that is read back
record Field : Type 0 where
  name : List ℕ
  label : List ℕ
  text : List ℕ
  value : Json
  named : json_string name ≡ label
  spelt : utf8_lossy name ≡ name
  reads : Reads text value

abbrev field_text : Field → List ℕ
field_text f = f.label ++ 58 ∷ f.text

abbrev fields_of : List Field → Members
fields_of [] = no_members
fields_of (f ∷ fs) = member f.name f.value (fields_of fs)

texts_same : (fs : List Field) → map (member_text (λ (f : Field). f.name) (λ f. f.text)) fs ≡ map field_text fs
texts_same [] = refl
texts_same (f ∷ fs) = ap₂ (λ (l : List ℕ) (ls : List (List ℕ)). (l ++ 58 ∷ f.text) ∷ ls) f.named (texts_same fs)

members_same : (fs : List Field) → members_of (λ (f : Field). f.name) (λ f. f.value) fs ≡ fields_of fs
members_same [] = refl
members_same (f ∷ fs) = ap₂ (λ (l : List ℕ) (ms : Members). member l f.value ms) f.spelt (members_same fs)

-- texts with a comma between two, and an end
abbrev joined : List ℕ → List (List ℕ) → List ℕ → List ℕ
joined x [] end = x ++ end
joined x (y ∷ ys) end = x ++ 44 ∷ joined y ys end

joined_is : (x : List ℕ) (ys : List (List ℕ)) (end : List ℕ) → listed (codes ",") (x ∷ ys) ++ end ≡ joined x ys end
unfolding listed
joined_is x [] end = append_assoc x [] end
joined_is x (y ∷ ys) end =
    append_assoc x (flat_map (λ z. codes "," ++ z) (y ∷ ys)) end ∙ ap (λ l. x ++ 44 ∷ l) (joined_is y ys end)

-- a line of such members is read back
fields_read : (f : Field) (fs : List Field) → members_depth (fields_of (f ∷ fs)) < 128
    → document (123 ∷ joined (field_text f) (map field_text fs) (codes "}\n")) ≡ Some (object (fields_of (f ∷ fs)))
fields_read f fs shallow =
    let all = f ∷ fs in
    let same = members_same all in
    let depth_same : members_depth (members_of (λ (g : Field). g.name) (λ g. g.value) all) < 128 = subst (λ ms. members_depth ms < 128) (sym same) shallow in
    ap (λ l. document (123 ∷ l)) (sym (joined_is (field_text f) (map field_text fs) (codes "}\n")) ∙ ap (λ ls. listed (codes ",") ls ++ codes "}\n") (sym (texts_same all)))
    ∙ (line_read (λ (g : Field). g.name) (λ g. g.text) (λ g. g.value) (λ g. g.reads) all depth_same ∙ ap (λ ms. Some (object ms)) same)

-- an object of such members is read back
fields_value : (f : Field) (fs : List Field) → Reads (123 ∷ joined (field_text f) (map field_text fs) (125 ∷ [])) (object (fields_of (f ∷ fs)))
fields_value f fs =
    let all = f ∷ fs in
    let same = members_same all in
    let texts : listed (codes ",") (map (member_text (λ (g : Field). g.name) (λ g. g.text)) all) ++ 125 ∷ [] ≡ joined (field_text f) (map field_text fs) (125 ∷ []) =
    ap (λ ls. listed (codes ",") ls ++ 125 ∷ []) (texts_same all) ∙ joined_is (field_text f) (map field_text fs) (125 ∷ []) in
    subst (λ l. Reads (123 ∷ l) (object (fields_of all))) texts
    (subst (λ ms. Reads (123 ∷ listed (codes ",") (map (member_text (λ (g : Field). g.name) (λ g. g.text)) all) ++ 125 ∷ []) (object ms)) same
    (object_reads (λ (g : Field). g.name) (λ g. g.text) (λ g. g.value) (λ g. g.reads) all))

map_same : {X Y : Type 0} (f g : X → Y) → ((x : X) → f x ≡ g x) → (xs : List X) → map f xs ≡ map g xs
map_same f g h [] = refl
map_same {Y = Y} f g h (x ∷ xs) = ap₂ (λ (y : Y) (ys : List Y). y ∷ ys) (h x) (map_same f g h xs)

cell_reads : (null_word : Option (List ℕ)) (cell : List ℕ) → Reads (json_cell null_word cell) (cell_value null_word cell)
unfolding json_cell
cell_reads null_word cell = by (is_null null_word cell)
  where
    by : (is : Bool) → Reads (cond is (codes "null") (json_string cell)) (cond is null (string (utf8_lossy cell)))
    by true = null_reads
    by false = string_reads cell

cell_flat : (null_word : Option (List ℕ)) (cell : List ℕ) → depth (cell_value null_word cell) ≤ 0
cell_flat null_word cell = by (is_null null_word cell)
  where
    by : (is : Bool) → depth (cond is null (string (utf8_lossy cell))) ≤ 0
    by true = omega arith
    by false = omega arith

-- a key is read back
key_reads : (n : Naming) (cells : List (List ℕ)) → Reads (123 ∷ key_members n cells ++ 125 ∷ []) (key_value n cells)
key_reads n cells =
    object_reads (λ column. get_or n.names column []) (λ column. json_string (get_or cells column [])) (λ column. string (utf8_lossy (get_or cells column [])))
    (λ column. string_reads (get_or cells column [])) n.keys

key_shallow : (n : Naming) (cells : List (List ℕ)) → depth (key_value n cells) ≤ 2
key_shallow n cells =
    let flat = depth_within (λ column. get_or n.names column []) (λ column. string (utf8_lossy (get_or cells column []))) 0 (λ column. omega arith) n.keys in
    omega (arith, flat)

-- two cells
abbrev cells_text : List ℕ → List ℕ → List ℕ
cells_text left right = 123 ∷ joined (codes "\"left\"" ++ 58 ∷ left) ((codes "\"right\"" ++ 58 ∷ right) ∷ []) (125 ∷ [])

change_text : (name left right : List ℕ) → name ++ codes ":{\"left\":" ++ left ++ codes ",\"right\":" ++ right ++ codes "}" ≡ name ++ 58 ∷ cells_text left right
change_text name left right = simp append_assoc refl

change_reads : (n : Naming) (left right : List (List ℕ)) (column : ℕ)
    → Reads (cells_text (json_cell n.null (get_or left column [])) (json_cell n.null (get_or right column []))) (change_value n left right column)
unfolding json_string char_text encode_utf8 computing
change_reads n left right column =
    let old = get_or left column [] in
    let new = get_or right column [] in
    fields_value
    (record { name = codes "left"; label = codes "\"left\""; text = json_cell n.null old; value = cell_value n.null old; named = refl; spelt = refl; reads = cell_reads n.null old })
    (record { name = codes "right"; label = codes "\"right\""; text = json_cell n.null new; value = cell_value n.null new; named = refl; spelt = refl; reads = cell_reads n.null new } ∷ [])

changes_read : (n : Naming) (columns : List ℕ) (left right : List (List ℕ)) → Reads (123 ∷ change_members n columns left right ++ 125 ∷ []) (changes_value n columns left right)
changes_read n columns left right =
    let text = λ (column : ℕ). cells_text (json_cell n.null (get_or left column [])) (json_cell n.null (get_or right column [])) in
    let same : map (member_text (λ column. get_or n.names column []) text) columns ≡ map (change_member n left right) columns =
    map_same (member_text (λ column. get_or n.names column []) text) (change_member n left right)
    (λ column. sym (change_text (json_string (get_or n.names column [])) (json_cell n.null (get_or left column [])) (json_cell n.null (get_or right column [])))) columns in
    subst (λ ls. Reads (123 ∷ listed (codes ",") ls ++ 125 ∷ []) (changes_value n columns left right)) same
    (object_reads (λ column. get_or n.names column []) text (change_value n left right) (change_reads n left right) columns)

changes_shallow : (n : Naming) (columns : List ℕ) (left right : List (List ℕ)) → depth (changes_value n columns left right) ≤ 2
changes_shallow n columns left right =
    let flat = depth_within (λ column. get_or n.names column []) (change_value n left right) 1
    (λ column. omega (arith, cell_flat n.null (get_or left column []), cell_flat n.null (get_or right column []))) columns in
    omega (arith, flat)

pair_text : (K a b c d C : List ℕ)
    → codes "{\"kind\":\"changed\",\"key\":{" ++ K ++ codes "},\"left_row\":" ++ a ++ codes ",\"right_row\":" ++ b ++ codes ",\"left_line\":" ++ c ++ codes ",\"right_line\":" ++ d ++ codes ",\"changes\":{" ++ C ++ codes "}}\n"
    ≡ 123 ∷ joined (codes "\"kind\"" ++ 58 ∷ codes "\"changed\"") ((codes "\"key\"" ++ 58 ∷ (123 ∷ K ++ 125 ∷ [])) ∷ (codes "\"left_row\"" ++ 58 ∷ a) ∷ (codes "\"right_row\"" ++ 58 ∷ b)
    ∷ (codes "\"left_line\"" ++ 58 ∷ c) ∷ (codes "\"right_line\"" ++ 58 ∷ d) ∷ (codes "\"changes\"" ++ 58 ∷ (123 ∷ C ++ 125 ∷ [])) ∷ []) (codes "}\n")
pair_text K a b c d C = simp append_assoc (rw (append_assoc K (125 ∷ [])) refl)

changed_word : Reads (codes "\"changed\"") (string (codes "changed"))
unfolding json_string char_text encode_utf8 computing
changed_word = string_reads (codes "changed")

-- the line of two rows that differ is read back
pub pair_reads : (K C : List ℕ) (key changes : Json) (a b c d : ℕ) → Reads (123 ∷ K ++ 125 ∷ []) key → Reads (123 ∷ C ++ 125 ∷ []) changes → depth key ≤ 2 → depth changes ≤ 2
    → a < 2 ^ 64 → b < 2 ^ 64 → c < 2 ^ 64 → d < 2 ^ 64
    → document (codes "{\"kind\":\"changed\",\"key\":{" ++ K ++ codes "},\"left_row\":" ++ decimal a ++ codes ",\"right_row\":" ++ decimal b ++ codes ",\"left_line\":" ++ decimal c
    ++ codes ",\"right_line\":" ++ decimal d ++ codes ",\"changes\":{" ++ C ++ codes "}}\n")
    ≡ Some (object (member (codes "kind") (string (codes "changed")) (member (codes "key") key (member (codes "left_row") (number (decimal a)) (member (codes "right_row") (number (decimal b))
    (member (codes "left_line") (number (decimal c)) (member (codes "right_line") (number (decimal d)) (member (codes "changes") changes no_members))))))))
unfolding json_string char_text encode_utf8 computing
pair_reads K C key changes a b c d read_key read_changes shallow shallow_too low_a low_b low_c low_d =
    ap document (pair_text K (decimal a) (decimal b) (decimal c) (decimal d) C)
    ∙ fields_read
    (record { name = codes "kind"; label = codes "\"kind\""; text = codes "\"changed\""; value = string (codes "changed"); named = refl; spelt = refl; reads = changed_word })
    (record { name = codes "key"; label = codes "\"key\""; text = 123 ∷ K ++ 125 ∷ []; value = key; named = refl; spelt = refl; reads = read_key }
    ∷ record { name = codes "left_row"; label = codes "\"left_row\""; text = decimal a; value = number (decimal a); named = refl; spelt = refl; reads = number_reads a low_a }
    ∷ record { name = codes "right_row"; label = codes "\"right_row\""; text = decimal b; value = number (decimal b); named = refl; spelt = refl; reads = number_reads b low_b }
    ∷ record { name = codes "left_line"; label = codes "\"left_line\""; text = decimal c; value = number (decimal c); named = refl; spelt = refl; reads = number_reads c low_c }
    ∷ record { name = codes "right_line"; label = codes "\"right_line\""; text = decimal d; value = number (decimal d); named = refl; spelt = refl; reads = number_reads d low_d }
    ∷ record { name = codes "changes"; label = codes "\"changes\""; text = 123 ∷ C ++ 125 ∷ []; value = changes; named = refl; spelt = refl; reads = read_changes } ∷ [])
    (omega arith)

removed_word : Reads (34 ∷ codes "removed" ++ 34 ∷ []) (string (codes "removed"))
unfolding json_string char_text encode_utf8 computing
removed_word = string_reads (codes "removed")

added_word : Reads (34 ∷ codes "added" ++ 34 ∷ []) (string (codes "added"))
unfolding json_string char_text encode_utf8 computing
added_word = string_reads (codes "added")

row_text : (kind K a b : List ℕ)
    → codes "{\"kind\":\"" ++ kind ++ codes "\",\"key\":{" ++ K ++ codes "},\"row\":" ++ a ++ codes ",\"line\":" ++ b ++ codes "}\n"
    ≡ 123 ∷ joined (codes "\"kind\"" ++ 58 ∷ (34 ∷ kind ++ 34 ∷ [])) ((codes "\"key\"" ++ 58 ∷ (123 ∷ K ++ 125 ∷ [])) ∷ (codes "\"row\"" ++ 58 ∷ a) ∷ (codes "\"line\"" ++ 58 ∷ b) ∷ []) (codes "}\n")
row_text kind K a b = simp append_assoc (rw (append_assoc K (125 ∷ []), append_assoc kind (34 ∷ [])) refl)

-- the line of a row that only one side has is read back
row_reads : (kind K : List ℕ) (key : Json) (a b : ℕ) → Reads (34 ∷ kind ++ 34 ∷ []) (string kind) → Reads (123 ∷ K ++ 125 ∷ []) key → depth key ≤ 2 → a < 2 ^ 64 → b < 2 ^ 64
    → document (codes "{\"kind\":\"" ++ kind ++ codes "\",\"key\":{" ++ K ++ codes "},\"row\":" ++ decimal a ++ codes ",\"line\":" ++ decimal b ++ codes "}\n")
    ≡ Some (object (member (codes "kind") (string kind) (member (codes "key") key (member (codes "row") (number (decimal a)) (member (codes "line") (number (decimal b)) no_members)))))
unfolding json_string char_text encode_utf8 computing
row_reads kind K key a b read_kind read_key shallow low_a low_b =
    ap document (row_text kind K (decimal a) (decimal b))
    ∙ fields_read
    (record { name = codes "kind"; label = codes "\"kind\""; text = 34 ∷ kind ++ 34 ∷ []; value = string kind; named = refl; spelt = refl; reads = read_kind })
    (record { name = codes "key"; label = codes "\"key\""; text = 123 ∷ K ++ 125 ∷ []; value = key; named = refl; spelt = refl; reads = read_key }
    ∷ record { name = codes "row"; label = codes "\"row\""; text = decimal a; value = number (decimal a); named = refl; spelt = refl; reads = number_reads a low_a }
    ∷ record { name = codes "line"; label = codes "\"line\""; text = decimal b; value = number (decimal b); named = refl; spelt = refl; reads = number_reads b low_b } ∷ [])
    (omega arith)

column_word : Reads (codes "\"column\"") (string (codes "column"))
unfolding json_string char_text encode_utf8 computing
column_word = string_reads (codes "column")

left_word : Reads (34 ∷ codes "left" ++ 34 ∷ []) (string (codes "left"))
unfolding json_string char_text encode_utf8 computing
left_word = string_reads (codes "left")

right_word : Reads (34 ∷ codes "right" ++ 34 ∷ []) (string (codes "right"))
unfolding json_string char_text encode_utf8 computing
right_word = string_reads (codes "right")

column_text : (name side : List ℕ)
    → codes "{\"kind\":\"column\",\"column\":" ++ name ++ codes ",\"only_in\":\"" ++ side ++ codes "\"}\n"
    ≡ 123 ∷ joined (codes "\"kind\"" ++ 58 ∷ codes "\"column\"") ((codes "\"column\"" ++ 58 ∷ name) ∷ (codes "\"only_in\"" ++ 58 ∷ (34 ∷ side ++ 34 ∷ [])) ∷ []) (codes "}\n")
column_text name side = simp append_assoc refl

-- the line of a column that only one input has is read back
column_reads : (name side : List ℕ) → Reads (34 ∷ side ++ 34 ∷ []) (string side)
    → document (codes "{\"kind\":\"column\",\"column\":" ++ json_string name ++ codes ",\"only_in\":\"" ++ side ++ codes "\"}\n")
    ≡ Some (object (member (codes "kind") (string (codes "column")) (member (codes "column") (string (utf8_lossy name)) (member (codes "only_in") (string side) no_members))))
unfolding json_string char_text encode_utf8 computing
column_reads name side read_side =
    ap document (column_text (json_string name) side)
    ∙ fields_read
    (record { name = codes "kind"; label = codes "\"kind\""; text = codes "\"column\""; value = string (codes "column"); named = refl; spelt = refl; reads = column_word })
    (record { name = codes "column"; label = codes "\"column\""; text = json_string name; value = string (utf8_lossy name); named = refl; spelt = refl; reads = string_reads name }
    ∷ record { name = codes "only_in"; label = codes "\"only_in\""; text = 34 ∷ side ++ 34 ∷ []; value = string side; named = refl; spelt = refl; reads = read_side } ∷ [])
    (omega arith)

counts_text : (a b c d e M : List ℕ)
    → codes "{\"kind\":\"counts\"," ++ (codes "\"changed\":" ++ a ++ codes ",\"removed\":" ++ b ++ codes ",\"added\":" ++ c ++ codes ",\"same\":" ++ d ++ codes ",\"not_shown\":" ++ e) ++ codes ",\"columns\":{" ++ M ++ codes "}}\n"
    ≡ 123 ∷ joined (codes "\"kind\"" ++ 58 ∷ codes "\"counts\"") ((codes "\"changed\"" ++ 58 ∷ a) ∷ (codes "\"removed\"" ++ 58 ∷ b) ∷ (codes "\"added\"" ++ 58 ∷ c) ∷ (codes "\"same\"" ++ 58 ∷ d)
    ∷ (codes "\"not_shown\"" ++ 58 ∷ e) ∷ (codes "\"columns\"" ++ 58 ∷ (123 ∷ M ++ 125 ∷ [])) ∷ []) (codes "}\n")
counts_text a b c d e M = simp append_assoc refl

counts_word : Reads (codes "\"counts\"") (string (codes "counts"))
unfolding json_string char_text encode_utf8 computing
counts_word = string_reads (codes "counts")

-- the line with the counts is read back
counts_read : (a b c d e : ℕ) (M : List ℕ) (columns : Json) → a < 2 ^ 64 → b < 2 ^ 64 → c < 2 ^ 64 → d < 2 ^ 64 → e < 2 ^ 64 → Reads (123 ∷ M ++ 125 ∷ []) columns → depth columns ≤ 2
    → document (codes "{\"kind\":\"counts\"," ++ (codes "\"changed\":" ++ decimal a ++ codes ",\"removed\":" ++ decimal b ++ codes ",\"added\":" ++ decimal c ++ codes ",\"same\":" ++ decimal d
    ++ codes ",\"not_shown\":" ++ decimal e) ++ codes ",\"columns\":{" ++ M ++ codes "}}\n")
    ≡ Some (object (member (codes "kind") (string (codes "counts")) (member (codes "changed") (number (decimal a)) (member (codes "removed") (number (decimal b)) (member (codes "added") (number (decimal c))
    (member (codes "same") (number (decimal d)) (member (codes "not_shown") (number (decimal e)) (member (codes "columns") columns no_members))))))))
unfolding json_string char_text encode_utf8 computing
counts_read a b c d e M columns low_a low_b low_c low_d low_e read_columns shallow =
    ap document (counts_text (decimal a) (decimal b) (decimal c) (decimal d) (decimal e) M)
    ∙ fields_read
    (record { name = codes "kind"; label = codes "\"kind\""; text = codes "\"counts\""; value = string (codes "counts"); named = refl; spelt = refl; reads = counts_word })
    (record { name = codes "changed"; label = codes "\"changed\""; text = decimal a; value = number (decimal a); named = refl; spelt = refl; reads = number_reads a low_a }
    ∷ record { name = codes "removed"; label = codes "\"removed\""; text = decimal b; value = number (decimal b); named = refl; spelt = refl; reads = number_reads b low_b }
    ∷ record { name = codes "added"; label = codes "\"added\""; text = decimal c; value = number (decimal c); named = refl; spelt = refl; reads = number_reads c low_c }
    ∷ record { name = codes "same"; label = codes "\"same\""; text = decimal d; value = number (decimal d); named = refl; spelt = refl; reads = number_reads d low_d }
    ∷ record { name = codes "not_shown"; label = codes "\"not_shown\""; text = decimal e; value = number (decimal e); named = refl; spelt = refl; reads = number_reads e low_e }
    ∷ record { name = codes "columns"; label = codes "\"columns\""; text = 123 ∷ M ++ 125 ∷ []; value = columns; named = refl; spelt = refl; reads = read_columns } ∷ [])
    (omega arith)

-- ---- the lines of a report

pub pair_law : (n : Naming) (columns : List ℕ) (i left_line : ℕ) (left : List (List ℕ)) (j right_line : ℕ) (right : List (List ℕ)) → i < 2 ^ 64 → left_line < 2 ^ 64 → j < 2 ^ 64 → right_line < 2 ^ 64
    → document (pair_object n columns i left_line left j right_line right) ≡ Some (pair_value n columns i left_line left j right_line right)
unfolding pair_object
pair_law n columns i left_line left j right_line right low_i low_left low_j low_right =
    pair_reads (key_members n left) (change_members n columns left right) (key_value n left) (changes_value n columns left right) i j left_line right_line
    (key_reads n left) (changes_read n columns left right) (key_shallow n left) (changes_shallow n columns left right) low_i low_j low_left low_right

row_law : (kind : List ℕ) → Reads (34 ∷ kind ++ 34 ∷ []) (string kind) → (n : Naming) (i line : ℕ) (cells : List (List ℕ)) → i < 2 ^ 64 → line < 2 ^ 64
    → document (row_object kind n i line cells) ≡ Some (row_value kind n i line cells)
unfolding row_object
row_law kind read_kind n i line cells low_i low_line = row_reads kind (key_members n cells) (key_value n cells) i line read_kind (key_reads n cells) (key_shallow n cells) low_i low_line

pub removed_law : (n : Naming) (i line : ℕ) (cells : List (List ℕ)) → i < 2 ^ 64 → line < 2 ^ 64 → document (row_object (codes "removed") n i line cells) ≡ Some (row_value (codes "removed") n i line cells)
removed_law = row_law (codes "removed") removed_word

pub added_law : (n : Naming) (i line : ℕ) (cells : List (List ℕ)) → i < 2 ^ 64 → line < 2 ^ 64 → document (row_object (codes "added") n i line cells) ≡ Some (row_value (codes "added") n i line cells)
added_law = row_law (codes "added") added_word

pub column_law : (side : Side) (name : List ℕ) → document (column_object side name) ≡ Some (column_value side name)
unfolding column_object
column_law Left name = column_reads name (codes "left") left_word
column_law Right name = column_reads name (codes "right") right_word

columns_read : (n : Naming) (counts : List ℕ) → ((column : ℕ) → slice_index counts column < 2 ^ 64) → Reads (123 ∷ column_members n.names counts ++ 125 ∷ []) (columns_value n counts)
columns_read n counts low =
    object_reads (λ column. get_or n.names column []) (λ column. decimal (slice_index counts column)) (λ column. number (decimal (slice_index counts column)))
    (λ column. number_reads (slice_index counts column) (low column)) (columns_counted counts)

columns_shallow : (n : Naming) (counts : List ℕ) → depth (columns_value n counts) ≤ 2
columns_shallow n counts =
    let flat = depth_within (λ column. get_or n.names column []) (λ column. number (decimal (slice_index counts column))) 0 (λ column. omega arith) (columns_counted counts) in
    omega (arith, flat)

pub counts_law : (n : Naming) (c : Comparison) (counts : List ℕ) (limit : ℕ) → difference_count c < 2 ^ 64 → length c.matching.left_rows.items < 2 ^ 64 → ((column : ℕ) → slice_index counts column < 2 ^ 64)
    → document (counts_object n c counts limit) ≡ Some (counts_value n c counts limit)
unfolding counts_object totals_members
counts_law n c counts limit few low_rows low =
    counts_read (length c.changed.items) (length c.matching.removed.items) (length c.matching.added.items) (length c.matching.left_rows.items - length c.changed.items) (difference_count c - limit)
    (column_members n.names counts) (columns_value n counts) (omega arith) (omega arith) (omega arith) (omega arith) (omega arith) (columns_read n counts low) (columns_shallow n counts)
