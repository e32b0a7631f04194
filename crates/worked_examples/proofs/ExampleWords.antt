-- Worked examples of the small definitions behind a report: keys, words, quotes and lines.
use Rattle.std.proofs.Common.{◌≡◌, true, false, [], ◌∷◌, ◌++◌, arith, refl}
use Rattle.std.specs.Char.{encode_utf8}
use Rattle.std.specs.Fmt.{digits}
use Rattle.std.specs.Prelude.{None, Some, codes}
use Rattle.bstr.proofs.Computing.{computing}
use Rattle.csv.specs.declared.parser.State.TheVariants as st
use Rattle.diff_columns.specs.Choice.{IsWanted}
use Rattle.diff_columns.specs.Errors.{names_on, word_of}
use Rattle.diff_columns.specs.declared.error.Side.TheVariants.{Left, Right}
use Rattle.diff_csv.specs.Options.{config_of}
use Rattle.diff_csv.specs.Quotes.{is_quoted, state_after}
use Rattle.diff_json.specs.Cells.{json_cell}
use Rattle.diff_json.specs.Counts.{counts_object, totals_members}
use Rattle.diff_json.specs.Lines.{changed_object, pair_object, row_object, side_object}
use Rattle.diff_json.specs.Report.{json_text}
use Rattle.diff_json.specs.Strings.{char_text, json_string}
use Rattle.diff_keys.specs.Outcome.{no_rows}
use Rattle.diff_keys.specs.Partners.{count_of, one_more}
use Rattle.diff_numbers.specs.Cells.{is_end}
use Rattle.diff_numbers.specs.Columns.{is_named}
use Rattle.diff_parts.specs.Parts.{has_hash, number_if}
use Rattle.diff_parts.specs.Rows.{numbers_in, rows_in}
use Rattle.diff_report.specs.Counts.{count_at}
use Rattle.diff_report.specs.Lines.{changed_line, line_of, side_line, side_text}
use Rattle.diff_report.specs.Pairs.{columns_of, is_apart}
use Rattle.diff_report.specs.Report.{difference_lines}
use Rattle.diff_report.specs.Rows.{key_text, row_text}
use Rattle.diff_report.specs.Sides.{naming_of, number_in, number_of}
use Rattle.diff_report.specs.Summary.{count_text, is_counted, totals_text}
use Rattle.diff_run.proofs.ExampleColumns.{by_id}
use Rattle.diff_run.proofs.ExampleReport.{commas}
use Rattle.diff_run.specs.Chosen.{no_columns}
use Rattle.diff_run.specs.Inputs.{rows_of}
use Rattle.diff_run.specs.Run.{differences_text}
use Rattle.diff_tables.specs.Keys.{escaped, marked}
use Rattle.diff_words.specs.Cells.{cell_text, is_null}
use Rattle.diff_words.specs.Colors.{color_code, color_text, painted}
use Rattle.diff_words.specs.Lists.{listed}
use Rattle.diff_words.specs.Quoted.{byte_text, hex_text, is_control, is_hidden, is_high_control}
use Rattle.diff_words.specs.Quoted.{letter_of, quoted, text_by, texts_behind}
use Rattle.diff_words.specs.Words.{is_word, is_word_byte, word_text}
use Rattle.diff_words.specs.declared.colors.Color.TheVariants.{Red}
use Rattle.diff_words.specs.declared.formats.Format.TheVariants.{Json}
use Rattle.worked_examples.proofs.ExampleColumns.{header, layout}
use Rattle.worked_examples.proofs.ExampleRows.{comparison, matching, old_rows}
use Rattle.worked_examples.proofs.ExampleSides.{sides}

-- ---- reading

-- the byte between fields
config-comma : (config_of commas).delimiter ≡ 44
config-comma = refl

-- a quote that opens after a comma leaves the reader within quotes
state-behind_quote : state_after (config_of commas) st.StartRecord (codes "a,\"b") ≡ st.InQuoted
unfolding state_after
state-behind_quote = refl

quoted-state : is_quoted st.InQuoted ≡ true
quoted-state = refl

-- a second quote may be one of the text, or end it
not-quoted-state : is_quoted st.AfterQuote ≡ false
not-quoted-state = refl

-- a column that is not ignored is wanted, where no columns are asked for
n-wanted : IsWanted by_id (codes "n")
n-wanted = (tt, λ there. let (k, within, is) = there in omega (arith, within))

names-of-right : names_on Right (codes "a" ∷ []) (codes "b" ∷ []) ≡ codes "b" ∷ []
names-of-right = refl

word-left : word_of Left ≡ codes "left"
word-left = refl

-- a header is no row
rows-two : rows_of true (header ∷ old_rows) (0 ∷ 1 ∷ []) ≡ old_rows
rows-two = refl

-- where no part is asked for, all rows are compared, and they are not numbered
rows-in_whole : rows_in None (0 ∷ []) old_rows ≡ old_rows
rows-in_whole = refl

numbers-in_whole : numbers_in None (0 ∷ []) old_rows ≡ None
numbers-in_whole = refl

-- the hash 3 is odd, and part 1 of 2 has the odd ones
hash-odd : has_hash (record { index = 1; count = 2 }) 3 ≡ true
hash-odd = refl

hash-other_part : has_hash (record { index = 2; count = 2 }) 3 ≡ false
hash-other_part = refl

number-kept : number_if true 4 (5 ∷ []) ≡ 4 ∷ 5 ∷ []
number-kept = refl

-- ---- keys

one-more : one_more true 4 ≡ 5
one-more = refl

-- of the keys a, b, a two are a
two-of-a : count_of (codes "a") (codes "a" ∷ codes "b" ∷ codes "a" ∷ []) ≡ 2
unfolding count_of
two-of-a = refl

-- a zero is marked, so that 0 0 is the end of a cell alone
zero-marked : marked 0 ≡ 0 ∷ 1 ∷ []
zero-marked = refl

zero-escaped : escaped (0 ∷ 7 ∷ []) ≡ 0 ∷ 1 ∷ 7 ∷ 0 ∷ 0 ∷ []
unfolding escaped
zero-escaped = refl

-- a row is removed
some-rows : no_rows matching [] ≡ false
some-rows = refl

-- ---- numbers

-- a number that ends with the cell
ends-there : is_end (Some []) ≡ true
ends-there = refl

ends-before : is_end (Some (codes "x")) ≡ false
ends-before = refl

named-id : is_named (codes "id" ∷ []) (codes "id") ≡ true
named-id = refl

-- ---- words

red-code : color_code Red ≡ 27 ∷ codes "[31m"
red-code = refl

no-color : color_text false Red ≡ []
unfolding color_text
no-color = refl

word-digits : is_word (codes "4411") ≡ true
word-digits = refl

word-comma : is_word (codes "a,b") ≡ false
word-comma = refl

word-empty : is_word [] ≡ false
word-empty = refl

word-space : is_word_byte 32 ≡ false
word-space = refl

letter-tab : letter_of 9 ≡ Some 116
letter-tab = refl

letter-none : letter_of 97 ≡ None
letter-none = refl

hex-escape : hex_text 27 ≡ codes "\\x1b"
hex-escape = refl

text-by-letter : text_by (Some 110) true 10 ≡ codes "\\n"
text-by-letter = refl

text-by-none : text_by None false 97 ≡ codes "a"
text-by-none = refl

control-delete : is_control 127 ≡ true
control-delete = refl

control-letter : is_control 97 ≡ false
control-letter = refl

-- U+0085, and U+00E5, the letter å
control-next_line : is_high_control 194 133 ≡ true
control-next_line = refl

control-ring : is_high_control 195 165 ≡ false
control-ring = refl

hidden-second_half : is_hidden 194 133 0 ≡ true
hidden-second_half = refl

byte-escape : byte_text 0 27 0 ≡ codes "\\x1b"
unfolding byte_text
byte-escape = refl

texts-tab : texts_behind 0 (9 ∷ 97 ∷ []) ≡ codes "\\ta"
unfolding byte_text
texts-tab = refl

null-word : is_null (Some (codes "NA")) (codes "NA") ≡ true
null-word = refl

null-none : is_null None [] ≡ false
null-none = refl

-- ---- lines of the two tables of rows 7, 1 and 8, 2, and 8, 3

number-third : number_in None 2 ≡ 3
number-third = refl

number-second : number_of sides.left 1 ≡ 2
number-second = refl

key-eight : key_text (naming_of sides) (codes "8" ∷ codes "2" ∷ []) 0 ≡ codes "id=8"
unfolding word_text
key-eight = refl

apart-n : is_apart sides 1 0 1 ≡ true
apart-n = refl

columns-n : columns_of sides 1 0 ≡ 1 ∷ []
columns-n = refl

count-n : count_at sides matching (0 ∷ []) 1 ≡ 1
count-n = refl

line-eight : line_of sides 1 0 ≡ codes "~ id=8  n \"2\" -> \"3\"\n"
unfolding row_text listed word_text cell_text quoted byte_text painted color_text
line-eight = refl

changed-eight : changed_line sides matching 0 ≡ codes "~ id=8  n \"2\" -> \"3\"\n"
unfolding changed_line row_text listed word_text cell_text quoted byte_text painted color_text
changed-eight = refl

text-seven : side_text 45 (naming_of sides) sides.left 0 ≡ codes "- id=7  old.csv line 2"
unfolding side_text row_text listed word_text digits
text-seven = refl

lines-two : difference_lines sides comparison
    ≡ codes "~ id=8  n \"2\" -> \"3\"\n" ∷ codes "- id=7  old.csv line 2\n" ∷ []
unfolding changed_line side_line side_text row_text listed word_text cell_text quoted byte_text
    painted color_text digits
lines-two = refl

totals-one : totals_text comparison ≡ codes "1 changed, 1 removed, 0 added, 0 the same."
unfolding totals_text digits
totals-one = refl

counted-n : is_counted (0 ∷ 1 ∷ []) 1 ≡ true
counted-n = refl

count-text-n : count_text (naming_of sides).names (0 ∷ 1 ∷ []) 1 ≡ codes "n 1"
unfolding word_text digits
count-text-n = refl

no-columns-alone : no_columns layout ≡ true
no-columns-alone = refl

-- the same report in JSON
json-report : differences_text Json sides comparison (0 ∷ 1 ∷ []) 20
    ≡ codes "{\"kind\":\"changed\",\"key\":{\"id\":\"8\"},\"left_row\":2,\"right_row\":1,"
    ++ codes "\"left_line\":3,\"right_line\":2,"
    ++ codes "\"changes\":{\"n\":{\"left\":\"2\",\"right\":\"3\"}}}\n"
    ++ codes "{\"kind\":\"removed\",\"key\":{\"id\":\"7\"},\"row\":1,\"line\":2}\n"
    ++ codes "{\"kind\":\"counts\",\"changed\":1,\"removed\":1,\"added\":0,\"same\":0,"
    ++ codes "\"not_shown\":0,\"columns\":{\"n\":1}}\n"
unfolding json_text changed_object side_object pair_object row_object counts_object totals_members
    listed json_cell json_string char_text encode_utf8 computing digits
json-report = refl
