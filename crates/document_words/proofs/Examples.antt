-- Worked examples of the definitions.
use Rattle.bstr.proofs.Computing.{computing}
use Rattle.std.specs.Char.{encode_utf8}
use Rattle.std.specs.Fmt.{digits}
use Rattle.std.specs.Prelude.{◌≡◌, ◌++◌, [], ◌∷◌, false, true, None, Some, codes, refl}
use Rattle.diff_json.specs.Counts.{totals_members}
use Rattle.diff_json.specs.Strings.{char_text, json_string}
use Rattle.diff_words.specs.Colors.{color_text, painted}
use Rattle.diff_words.specs.Lists.{listed}
use Rattle.diff_words.specs.Quoted.{byte_text, quoted}
use Rattle.diff_words.specs.Words.{word_text}
use Rattle.document_words.specs.Changes.{change_object, change_text, part_member, part_text}
use Rattle.document_words.specs.Counts.{counts_json, totals_text}
use Rattle.document_words.specs.Keys.{document_name, key_members}
use Rattle.document_words.specs.Lines.{alone_json, alone_text}
use Rattle.document_words.specs.Numbers.{is_short, plain_digits, value_text, with_point}
use Rattle.document_words.specs.Skipped.{skipped_members, skipped_text}
use Rattle.fast_float.specs.Text.{scan}
use Rattle.json_plain.specs.Plain.{plain_byte, plain_json}

name-by-keys : document_name (codes "order.id" ∷ codes "day" ∷ []) 0 (codes "\"A-7\"" ∷ codes "3e1" ∷ codes "{}" ∷ []) ≡ codes "order.id=\"A-7\",day=30"
unfolding document_name listed word_text value_text is_short plain_digits scan plain_json plain_byte
name-by-keys = refl

name-by-number : document_name [] 1 (codes "{}" ∷ []) ≡ codes "row 2"
unfolding document_name digits
name-by-number = refl

-- a key whose name has a space
name-with-space : document_name (codes "a b" ∷ []) 0 (codes "1" ∷ codes "{}" ∷ []) ≡ codes "\"a b\"=1"
unfolding document_name listed word_text quoted byte_text value_text is_short plain_digits scan plain_json plain_byte
name-with-space = refl

no-members : key_members [] (codes "{}" ∷ []) ≡ []
unfolding listed
no-members = refl

members : key_members (codes "id" ∷ codes "day" ∷ []) (codes "\"A-7\"" ∷ codes "3e1" ∷ codes "{}" ∷ []) ≡ codes "\"id\":\"A-7\",\"day\":30"
unfolding listed json_string char_text encode_utf8 value_text is_short plain_digits scan plain_json plain_byte computing
members = refl

hundreds : value_text (codes "12e2") ≡ codes "1200"
unfolding value_text is_short plain_digits scan
hundreds = refl

tenths : value_text (codes "15e-1") ≡ codes "1.5"
unfolding value_text is_short with_point plain_digits scan
tenths = refl

hundredths : value_text (codes "-5e-2") ≡ codes "-0.05"
unfolding value_text is_short with_point plain_digits scan
hundredths = refl

zero : value_text (codes "0") ≡ codes "0"
unfolding value_text is_short plain_digits scan
zero = refl

most-zeros : value_text (codes "1e20") ≡ codes "100000000000000000000"
unfolding value_text is_short plain_digits scan
most-zeros = refl

-- past 20 tens the exponent stays
large : value_text (codes "1e21") ≡ codes "1e21"
unfolding value_text is_short scan plain_json plain_byte
large = refl

small : value_text (codes "-15e-21") ≡ codes "-15e-21"
unfolding value_text is_short scan plain_json plain_byte
small = refl

-- numbers within an array stay in their normal texts
within : value_text (codes "[12e2]") ≡ codes "[12e2]"
unfolding value_text is_short scan plain_json plain_byte
within = refl

price : change_text false (codes "items[2].price") (Some (codes "9.5")) (Some (codes "9.75")) ≡ codes "items[2].price 9.5 -> 9.75"
unfolding change_text part_text painted color_text plain_json plain_byte
price = refl

no-tag : change_text false (codes "tags[1]") (Some (codes "\"new\"")) None ≡ codes "tags[1] \"new\" -> missing"
unfolding change_text part_text painted color_text plain_json plain_byte
no-tag = refl

in-colours : change_text true (codes "a") (Some (codes "1")) None ≡ codes "a " ++ 27 ∷ codes "[31m1" ++ 27 ∷ codes "[0m -> " ++ 27 ∷ codes "[32mmissing" ++ 27 ∷ codes "[0m"
unfolding change_text part_text painted color_text plain_json plain_byte
in-colours = refl

-- U+0085 in a string
next-line : part_text (Some (34 ∷ 194 ∷ 133 ∷ 34 ∷ [])) ≡ codes "\"\\u0085\""
unfolding part_text plain_json plain_byte
next-line = refl

no-tag-in-json : change_object (codes "tags[1]") (Some (codes "\"new\"")) None ≡ codes "{\"path\":\"tags[1]\",\"left\":\"new\"}"
unfolding change_object part_member json_string char_text encode_utf8 plain_json plain_byte computing
no-tag-in-json = refl

removed : alone_text 45 (codes "id=7") (codes "a.ndjson") 12 ≡ codes "- id=7  a.ndjson line 12"
unfolding alone_text word_text digits
removed = refl

removed-in-json : alone_json (codes "removed") (codes "\"id\":7") 12 ≡ codes "{\"kind\":\"removed\",\"key\":{\"id\":7},\"line\":12}\n"
unfolding alone_json digits
removed-in-json = refl

summary : totals_text 1 1 1 5 ≡ codes "1 changed, 1 removed, 1 added, 5 the same.\n"
unfolding totals_text digits
summary = refl

-- two lines that are passed over, of a file whose name has a space
two-skipped : skipped_text (codes "a b.ndjson") (7 ∷ 12 ∷ []) ≡ codes "Skipped 2 lines of \"a b.ndjson\" (the first is line 7).\n"
unfolding skipped_text word_text quoted byte_text digits
two-skipped = refl

one-skipped : skipped_text (codes "b.ndjson") (12 ∷ []) ≡ codes "Skipped 1 line of b.ndjson (line 12).\n"
unfolding skipped_text word_text digits
one-skipped = refl

none-skipped : skipped_text (codes "b.ndjson") [] ≡ []
unfolding skipped_text
none-skipped = refl

counts : counts_json 1 2 3 40 0 (skipped_members true 2 0) ≡ codes "{\"kind\":\"counts\",\"changed\":1,\"removed\":2,\"added\":3,\"same\":40,\"not_shown\":0,\"left_skipped\":2,\"right_skipped\":0}\n"
unfolding counts_json totals_members skipped_members digits
counts = refl

-- where no line may be passed over, nothing is told of that
counts-alone : counts_json 0 0 0 1 0 (skipped_members false 0 0) ≡ codes "{\"kind\":\"counts\",\"changed\":0,\"removed\":0,\"added\":0,\"same\":1,\"not_shown\":0}\n"
unfolding counts_json totals_members skipped_members digits
counts-alone = refl
