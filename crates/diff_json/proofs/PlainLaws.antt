-- Texts have no control character of ASCII.
use Rattle.std.proofs.Common.{◌≡◌, ◌⊎◌, ℕ, ◌+◌, ◌/◌, ◌%◌, ◌<◌, ◌≤◌, ◌^◌, Bool, true, false, cond, List, [], ◌∷◌, ◌++◌, Option, length, get_or, map, inl, inr, refl, sym, subst, arith, append_assoc, append-nil}
use Rattle.std.proofs.lemmas.Bool.{cases_eq, cases_lt, ne_eqb}
use Rattle.std.proofs.lemmas.Bool.Decides.{nat_tests}
use Rattle.std.proofs.lemmas.Fmt.{decimal_by_steps}
use Rattle.std.proofs.lemmas.List.Elements.{All-append, All-cons, All-from_get_or, All-nil, All-weaker}
use Rattle.std.proofs.lemmas.List.Sums.{AllPass-from_list_all}
use Rattle.std.proofs.lemmas.Str.{inside_one}
use Rattle.std.specs.Char as Char
use Rattle.std.specs.Char.{encode_utf8}
use Rattle.std.specs.Fmt.{decimal, digit_glyph}
use Rattle.std.specs.List.{flat_map, list_all}
use Rattle.std.specs.Prelude.{◌-◌, codes, not, slice_index}
use Rattle.bstr.specs.Utf8.{lossy_chars}
use Rattle.diff_columns.specs.Errors.{word_of}
use Rattle.diff_columns.specs.declared.error.Side.{Side}
use Rattle.diff_columns.specs.declared.error.Side.TheVariants.{Left, Right}
use Rattle.diff_tables.specs.declared.compare.Comparison.{Comparison}
use Rattle.diff_words.specs.Cells.{is_null}
use Rattle.diff_words.specs.Lists.{listed}
use Rattle.diff_words.specs.Quoted.{is_control}
use Rattle.diff_report.specs.Naming.{Naming}
use Rattle.diff_report.specs.Summary.{columns_counted}
use Rattle.diff_json.specs.Cells.{json_cell}
use Rattle.diff_json.specs.Changes.{change_member, change_members}
use Rattle.diff_json.specs.Columns.{column_object}
use Rattle.diff_json.specs.Counts.{column_member, column_members, counts_object, difference_count, totals_members}
use Rattle.diff_json.specs.Keys.{key_member, key_members}
use Rattle.diff_json.specs.Lines.{pair_object, row_object}
use Rattle.diff_json.specs.Plain.{IsLine, IsPlain}
use Rattle.diff_json.specs.Strings.{char_text, escape_text, json_string}

-- a text that is tested
pub plain_text : (text : List ℕ) → list_all (λ b. not (is_control b)) text ≡ true → IsPlain text
plain_text text e = All-weaker (λ b. not (is_control b) ≡ true) (λ b. is_control b ≡ false) turned text (AllPass-from_list_all (λ b. not (is_control b)) text e)
  where
    turned : (b : ℕ) → not (is_control b) ≡ true → is_control b ≡ false
    turned b h = by (is_control b) h
      where
        by : (x : Bool) → not x ≡ true → x ≡ false
        by true h = absurd (cc)
        by false h = refl

pub both_plain : (xs ys : List ℕ) → IsPlain xs → IsPlain ys → IsPlain (xs ++ ys)
both_plain xs ys h k = All-append (λ b. is_control b ≡ false) xs ys h k

one_plain : (b : ℕ) (bs : List ℕ) → is_control b ≡ false → IsPlain bs → IsPlain (b ∷ bs)
one_plain b bs h rest = All-cons (λ x. is_control x ≡ false) b bs h rest

pub decimal_plain : (n : ℕ) → n < 2 ^ 64 → IsPlain (decimal n)
decimal_plain n low =
    decimal_by_steps (λ _ ds. IsPlain ds) (λ d small. one_plain (48 + d) [] (grind (arith, nat_tests)) (All-nil (λ b. is_control b ≡ false)))
    (λ m ds above rest. both_plain ds ((48 + m % 10) ∷ []) rest (one_plain (48 + m % 10) [] (digit (m % 10) (omega arith)) (All-nil (λ b. is_control b ≡ false)))) n low
  where
    digit : (d : ℕ) → d < 10 → is_control (48 + d) ≡ false
    digit d small = grind (arith, nat_tests)

glyph : (d : ℕ) → d < 16 → is_control (digit_glyph false d) ≡ false
glyph d low = grind (arith, nat_tests)

escape_plain : (c : ℕ) → c < 256 → IsPlain (escape_text c)
escape_plain c low =
    both_plain (codes "\\u00") (digit_glyph false (c / 16) ∷ digit_glyph false (c % 16) ∷ []) (plain_text (codes "\\u00") refl)
    (one_plain (digit_glyph false (c / 16)) (digit_glyph false (c % 16) ∷ []) (glyph (c / 16) (omega arith))
    (one_plain (digit_glyph false (c % 16)) [] (glyph (c % 16) (omega arith)) (All-nil (λ b. is_control b ≡ false))))

other_plain : (c : ℕ) → is_control c ≡ false → IsPlain (encode_utf8 c)
other_plain c h = All-from_get_or (λ b. is_control b ≡ false) (encode_utf8 c) 0 each
  where
    each : (k : ℕ) → k < length (encode_utf8 c) → is_control (get_or (encode_utf8 c) k 0) ≡ false
    each k below = elim (cases_lt (get_or (encode_utf8 c) k 0) 128) [
      | inl low ↦ subst (λ x. is_control x ≡ false) (inside_one c [] (encode_utf8 c) k (sym (append-nil _)) below low) h
      | inr high ↦ high_plain (get_or (encode_utf8 c) k 0) high
    ]
      where
        high_plain : (b : ℕ) → 128 ≤ b → is_control b ≡ false
        high_plain b high = grind (arith, nat_tests)

char_by : (c : ℕ) (control : Bool) → Char.is_control c ≡ control → IsPlain (cond control (escape_text c) (encode_utf8 c))
char_by c true e = escape_plain c (grind (arith, nat_tests))
char_by c false e = other_plain c (grind (arith, nat_tests))

char_plain : (c : ℕ) → IsPlain (char_text c)
unfolding char_text
char_plain c = by_letter (cases_eq c 34) (cases_eq c 92) (cases_eq c 10) (cases_eq c 13) (cases_eq c 9)
  where
    by_letter : (c ≡ 34) ⊎ (c ≡ 34 → ⊥) → (c ≡ 92) ⊎ (c ≡ 92 → ⊥) → (c ≡ 10) ⊎ (c ≡ 10 → ⊥) → (c ≡ 13) ⊎ (c ≡ 13 → ⊥) → (c ≡ 9) ⊎ (c ≡ 9 → ⊥) → IsPlain (char_text c)
    by_letter (inl e) b n r t = subst (λ x. IsPlain (char_text x)) (sym e) (plain_text (char_text 34) refl)
    by_letter (inr q) (inl e) n r t = subst (λ x. IsPlain (char_text x)) (sym e) (plain_text (char_text 92) refl)
    by_letter (inr q) (inr b) (inl e) r t = subst (λ x. IsPlain (char_text x)) (sym e) (plain_text (char_text 10) refl)
    by_letter (inr q) (inr b) (inr n) (inl e) t = subst (λ x. IsPlain (char_text x)) (sym e) (plain_text (char_text 13) refl)
    by_letter (inr q) (inr b) (inr n) (inr r) (inl e) = subst (λ x. IsPlain (char_text x)) (sym e) (plain_text (char_text 9) refl)
    by_letter (inr q) (inr b) (inr n) (inr r) (inr t) = rw (ne_eqb c 34 q, ne_eqb c 92 b, ne_eqb c 10 n, ne_eqb c 13 r, ne_eqb c 9 t) (char_by c (Char.is_control c) refl)

chars_plain : (cs : List ℕ) → IsPlain (flat_map char_text cs)
chars_plain [] = All-nil (λ b. is_control b ≡ false)
chars_plain (c ∷ cs) = both_plain (char_text c) (flat_map char_text cs) (char_plain c) (chars_plain cs)

pub string_plain : (bytes : List ℕ) → IsPlain (json_string bytes)
unfolding json_string
string_plain bytes =
    one_plain 34 (flat_map char_text (lossy_chars bytes) ++ 34 ∷ []) refl (both_plain (flat_map char_text (lossy_chars bytes)) (34 ∷ []) (chars_plain (lossy_chars bytes)) (plain_text (34 ∷ []) refl))

pub cell_plain : (null_word : Option (List ℕ)) (cell : List ℕ) → IsPlain (json_cell null_word cell)
unfolding json_cell
cell_plain null_word cell = by (is_null null_word cell)
  where
    by : (is : Bool) → IsPlain (cond is (codes "null") (json_string cell))
    by true = plain_text (codes "null") refl
    by false = string_plain cell

-- plain texts with a comma between two
pub list_plain : {X : Type 0} (f : X → List ℕ) → ((x : X) → IsPlain (f x)) → (xs : List X) → IsPlain (listed (codes ",") (map f xs))
unfolding listed
list_plain f h [] = All-nil (λ b. is_control b ≡ false)
list_plain {X = X} f h (x ∷ xs) = both_plain (f x) (flat_map (λ y. codes "," ++ y) (map f xs)) (h x) (rest xs)
  where
    rest : (ys : List X) → IsPlain (flat_map (λ y. codes "," ++ y) (map f ys))
    rest [] = All-nil (λ b. is_control b ≡ false)
    rest (y ∷ ys) = both_plain (codes "," ++ f y) (flat_map (λ z. codes "," ++ z) (map f ys)) (one_plain 44 (f y) refl (h y)) (rest ys)

-- a plain text, and the end of a line
pub line_of : (text end : List ℕ) → IsPlain text → IsPlain end → IsLine (text ++ (end ++ 10 ∷ []))
line_of text end h k = (text ++ end, sym (append_assoc text end (10 ∷ [])), both_plain text end h k)

key_plain : (n : Naming) (cells : List (List ℕ)) → IsPlain (key_members n cells)
key_plain n cells =
    list_plain (key_member n cells)
    (λ column. both_plain (json_string (get_or n.names column [])) (58 ∷ json_string (get_or cells column [])) (string_plain (get_or n.names column []))
    (one_plain 58 (json_string (get_or cells column [])) refl (string_plain (get_or cells column [])))) n.keys

-- the same as a record, from which the text is found
record Plain (text : List ℕ) : Type 0 where
  all : IsPlain text

tested : (text : List ℕ) → list_all (λ b. not (is_control b)) text ≡ true → Plain text
tested text e = record { all = plain_text text e }

both : {xs ys : List ℕ} → Plain xs → Plain ys → Plain (xs ++ ys)
both {xs = xs} {ys = ys} h k = record { all = both_plain xs ys h.all k.all }

string_part : (bytes : List ℕ) → Plain (json_string bytes)
string_part bytes = record { all = string_plain bytes }

cell_part : (null_word : Option (List ℕ)) (cell : List ℕ) → Plain (json_cell null_word cell)
cell_part null_word cell = record { all = cell_plain null_word cell }

-- a text, what names a number, and the number
numbered : {text : List ℕ} (before : List ℕ) (n : ℕ) → Plain text → list_all (λ b. not (is_control b)) before ≡ true → n < 2 ^ 64 → Plain (text ++ before ++ decimal n)
numbered before n h e low = both (both h (tested before e)) (record { all = decimal_plain n low })

-- a plain text, and the end of a line
ended : {text : List ℕ} (end : List ℕ) → Plain text → list_all (λ b. not (is_control b)) end ≡ true → IsLine (text ++ (end ++ 10 ∷ []))
ended {text = text} end h e = line_of text end h.all (plain_text end e)

changes_plain : (n : Naming) (columns : List ℕ) (left right : List (List ℕ)) → IsPlain (change_members n columns left right)
changes_plain n columns left right = list_plain (change_member n left right) each columns
  where
    each : (column : ℕ) → IsPlain (change_member n left right column)
    each column =
        let name = both (string_part (get_or n.names column [])) (tested (codes ":{\"left\":") refl) in
        let first = both name (cell_part n.null (get_or left column [])) in
        let second = both (both first (tested (codes ",\"right\":") refl)) (cell_part n.null (get_or right column [])) in
        (both second (tested (codes "}") refl)).all

key_part : (n : Naming) (cells : List (List ℕ)) → Plain (key_members n cells)
key_part n cells = record { all = key_plain n cells }

changes_part : (n : Naming) (columns : List ℕ) (left right : List (List ℕ)) → Plain (change_members n columns left right)
changes_part n columns left right = record { all = changes_plain n columns left right }

columns_part : (n : Naming) (counts : List ℕ) → ((column : ℕ) → slice_index counts column < 2 ^ 64) → Plain (column_members n.names counts)
columns_part n counts low = record {
  all = list_plain (column_member n.names counts)
      (λ column. both_plain (json_string (get_or n.names column [])) (58 ∷ decimal (slice_index counts column)) (string_plain (get_or n.names column []))
      (one_plain 58 (decimal (slice_index counts column)) refl (decimal_plain (slice_index counts column) (low column)))) (columns_counted counts);
}

pub pair_line : (n : Naming) (columns : List ℕ) (i left_line : ℕ) (left : List (List ℕ)) (j right_line : ℕ) (right : List (List ℕ)) → i < 2 ^ 64 → left_line < 2 ^ 64 → j < 2 ^ 64 → right_line < 2 ^ 64
    → IsLine (pair_object n columns i left_line left j right_line right)
unfolding pair_object
pair_line n columns i left_line left j right_line right low_i low_left low_j low_right =
    let key = both (tested (codes "{\"kind\":\"changed\",\"key\":{") refl) (key_part n left) in
    let rows = numbered (codes ",\"right_row\":") j (numbered (codes "},\"left_row\":") i key refl low_i) refl low_j in
    let lines = numbered (codes ",\"right_line\":") right_line (numbered (codes ",\"left_line\":") left_line rows refl low_left) refl low_right in
    let changes = both (both lines (tested (codes ",\"changes\":{") refl)) (changes_part n columns left right) in
    ended (codes "}}") changes refl

row_line : (kind : List ℕ) → Plain kind → (n : Naming) (i line : ℕ) (cells : List (List ℕ)) → i < 2 ^ 64 → line < 2 ^ 64 → IsLine (row_object kind n i line cells)
unfolding row_object
row_line kind h n i line cells low_i low_line =
    let word = both (both (tested (codes "{\"kind\":\"") refl) h) (tested (codes "\",\"key\":{") refl) in
    let row = numbered (codes "},\"row\":") i (both word (key_part n cells)) refl low_i in
    ended (codes "}") (numbered (codes ",\"line\":") line row refl low_line) refl

pub removed_line : (n : Naming) (i line : ℕ) (cells : List (List ℕ)) → i < 2 ^ 64 → line < 2 ^ 64 → IsLine (row_object (codes "removed") n i line cells)
removed_line = row_line (codes "removed") (tested (codes "removed") refl)

pub added_line : (n : Naming) (i line : ℕ) (cells : List (List ℕ)) → i < 2 ^ 64 → line < 2 ^ 64 → IsLine (row_object (codes "added") n i line cells)
added_line = row_line (codes "added") (tested (codes "added") refl)

side_part : (side : Side) → Plain (word_of side)
side_part Left = tested (codes "left") refl
side_part Right = tested (codes "right") refl

pub column_line : (side : Side) (name : List ℕ) → IsLine (column_object side name)
unfolding column_object
column_line side name =
    let start = both (tested (codes "{\"kind\":\"column\",\"column\":") refl) (string_part name) in
    let word = both (both start (tested (codes ",\"only_in\":\"") refl)) (side_part side) in
    ended (codes "\"}") word refl

pub counts_line : (n : Naming) (c : Comparison) (counts : List ℕ) (limit : ℕ) → difference_count c < 2 ^ 64 → length c.matching.left_rows.items < 2 ^ 64 → ((column : ℕ) → slice_index counts column < 2 ^ 64)
    → IsLine (counts_object n c counts limit)
unfolding counts_object totals_members
counts_line n c counts limit few low_rows low =
    let changed = both (tested (codes "\"changed\":") refl) (record { all = decimal_plain (length c.changed.items) (omega arith) }) in
    let removed = numbered (codes ",\"removed\":") (length c.matching.removed.items) changed refl (omega arith) in
    let added = numbered (codes ",\"added\":") (length c.matching.added.items) removed refl (omega arith) in
    let same = numbered (codes ",\"same\":") (length c.matching.left_rows.items - length c.changed.items) added refl (omega arith) in
    let totals = numbered (codes ",\"not_shown\":") (difference_count c - limit) same refl (omega arith) in
    let start = both (both (tested (codes "{\"kind\":\"counts\",") refl) totals) (tested (codes ",\"columns\":{") refl) in
    ended (codes "}}") (both start (columns_part n counts low)) refl
