-- Worked examples of the definitions.
use Rattle.std.specs.Char.{encode_utf8}
use Rattle.std.specs.Fmt.{digits}
use Rattle.std.specs.Prelude.{◌≡◌, [], ◌∷◌, ◌++◌, false, Some, codes, refl}
use Rattle.bstr.proofs.Computing.{computing}
use Rattle.diff_columns.specs.declared.error.Side.TheVariants.{Left}
use Rattle.diff_words.specs.Lists.{listed}
use Rattle.diff_report.specs.Naming.{Naming}
use Rattle.diff_json.specs.Cells.{json_cell}
use Rattle.diff_json.specs.Changes.{change_members}
use Rattle.diff_json.specs.Columns.{column_object}
use Rattle.diff_json.specs.Counts.{column_members, totals_members}
use Rattle.diff_json.specs.Keys.{key_members}
use Rattle.diff_json.specs.Lines.{pair_object, row_object}
use Rattle.diff_json.specs.Strings.{char_text, json_string}

-- two columns, of which the first one is the key
abbrev by_id : Naming
by_id = record { names = codes "id" ∷ codes "city" ∷ []; keys = 0 ∷ []; null = Some (codes "NA"); colored = false }

-- the bytes a, ", line feed, 27 and 255, of which the last one is no UTF-8
bytes-of-a-string : json_string (97 ∷ 34 ∷ 10 ∷ 27 ∷ 255 ∷ []) ≡ codes "\"a\\\"\\n\\u001b" ++ 239 ∷ 191 ∷ 189 ∷ codes "\""
unfolding json_string char_text encode_utf8 computing
bytes-of-a-string = refl

-- the characters U+007F and U+0085
last-controls : json_string (127 ∷ 194 ∷ 133 ∷ []) ≡ codes "\"\\u007f\\u0085\""
unfolding json_string char_text encode_utf8 computing
last-controls = refl

-- the cell that stands for no value
null-cell : json_cell (Some (codes "NA")) (codes "NA") ≡ codes "null"
unfolding json_cell
null-cell = refl

-- another cell
other-cell : json_cell (Some (codes "NA")) (codes "NB") ≡ codes "\"NB\""
unfolding json_cell json_string char_text encode_utf8 computing
other-cell = refl

-- a key is a string, whatever stands for no value
key-of-a-row : key_members by_id (codes "NA" ∷ codes "Oslo" ∷ []) ≡ codes "\"id\":\"NA\""
unfolding listed json_string char_text encode_utf8 computing
key-of-a-row = refl

one-change : change_members by_id (1 ∷ []) (codes "7" ∷ codes "NA" ∷ []) (codes "7" ∷ codes "Bergen" ∷ []) ≡ codes "\"city\":{\"left\":null,\"right\":\"Bergen\"}"
unfolding listed json_cell json_string char_text encode_utf8 computing
one-change = refl

line-of-a-pair : pair_object by_id (1 ∷ []) 5 6 (codes "4411" ∷ codes "Oslo" ∷ []) 7 8 (codes "4411" ∷ codes "Bergen" ∷ [])
    ≡ codes "{\"kind\":\"changed\",\"key\":{\"id\":\"4411\"},\"left_row\":5,\"right_row\":7,\"left_line\":6,\"right_line\":8,\"changes\":{\"city\":{\"left\":\"Oslo\",\"right\":\"Bergen\"}}}\n"
unfolding pair_object listed json_cell json_string char_text encode_utf8 computing digits
line-of-a-pair = refl

line-of-a-row : row_object (codes "removed") by_id 77 78 (codes "77" ∷ codes "Oslo" ∷ []) ≡ codes "{\"kind\":\"removed\",\"key\":{\"id\":\"77\"},\"row\":77,\"line\":78}\n"
unfolding row_object listed json_string char_text encode_utf8 computing digits
line-of-a-row = refl

line-of-a-column : column_object Left (codes "note") ≡ codes "{\"kind\":\"column\",\"column\":\"note\",\"only_in\":\"left\"}\n"
unfolding column_object json_string char_text encode_utf8 computing
line-of-a-column = refl

totals : totals_members 1 2 3 40 0 ≡ codes "\"changed\":1,\"removed\":2,\"added\":3,\"same\":40,\"not_shown\":0"
unfolding totals_members digits
totals = refl

one-column-counted : column_members by_id.names (0 ∷ 5 ∷ []) ≡ codes "\"city\":5"
unfolding listed json_string char_text encode_utf8 computing digits
one-column-counted = refl
