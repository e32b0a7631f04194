-- Worked examples of the definitions.
use Rattle.bstr.proofs.Computing.{computing}
use Rattle.std.specs.Char.{encode_utf8}
use Rattle.std.specs.Fmt.{digits}
use Rattle.std.specs.Prelude.{◌≡◌, ◌++◌, List, [], ◌∷◌, false, true, None, Some, codes, refl}
use Rattle.diff_json.specs.Counts.{totals_members}
use Rattle.diff_json.specs.Strings.{char_text, json_string}
use Rattle.diff_keys.specs.declared.matching.Matching.{Matching}
use Rattle.diff_words.specs.Colors.{color_text, painted}
use Rattle.diff_words.specs.Lists.{listed}
use Rattle.document_words.specs.Changes.{change_object, change_text, part_member, part_text}
use Rattle.document_words.specs.Counts.{counts_json, counts_object}
use Rattle.document_words.specs.Skipped.{skipped_members}
use Rattle.document_words.specs.declared.sides.DocumentSides.{DocumentSides}
use Rattle.json_changes.specs.Texts.{Told}
use Rattle.json_plain.specs.Plain.{plain_byte, plain_json}
use Rattle.document_report.specs.Objects.{document_json_text}
use Rattle.document_report.specs.Pairs.{pair_json, pair_text}

-- a price that differs, and a tag that the right document has not
abbrev two_changes : List Told
two_changes = record { path = codes "items[2].price"; left = Some (codes "9.5"); right = Some (codes "9.75") } ∷ record { path = codes "tags[1]"; left = Some (codes "\"new\""); right = None } ∷ []

pair : pair_text false (codes "order.id=\"A-7\"") two_changes ≡ codes "~ order.id=\"A-7\"  items[2].price 9.5 -> 9.75, tags[1] \"new\" -> missing\n"
unfolding pair_text listed change_text part_text painted color_text plain_json plain_byte
pair = refl

-- in colours the mark and the name are yellow
yellow : pair_text true (codes "id=7") [] ≡ 27 ∷ codes "[33m~ id=7" ++ 27 ∷ codes "[0m  \n"
unfolding pair_text listed painted color_text
yellow = refl

pair-in-json : pair_json (codes "\"id\":7") 1 4 two_changes
    ≡ codes "{\"kind\":\"changed\",\"key\":{\"id\":7},\"left_line\":1,\"right_line\":4,\"changes\":[{\"path\":\"items[2].price\",\"left\":9.5,\"right\":9.75},{\"path\":\"tags[1]\",\"left\":\"new\"}]}\n"
unfolding pair_json listed change_object part_member json_string char_text encode_utf8 plain_json plain_byte computing digits
pair-in-json = refl

-- a left document that is removed, and lines that are passed over
record IsSmall (s : DocumentSides) (m : Matching) : Type 0 where
  left_skipped : s.left_skipped.items ≡ 1 ∷ 3 ∷ []
  right_skipped : s.right_skipped.items ≡ 1 ∷ []
  skip_bad : s.skip_bad ≡ true
  left_rows : m.left_rows.items ≡ []
  removed : m.removed.items ≡ 0 ∷ []
  added : m.added.items ≡ []

small-in-json : (s : DocumentSides) (m : Matching) → IsSmall s m → document_json_text s m [] 0
    ≡ codes "{\"kind\":\"counts\",\"changed\":0,\"removed\":1,\"added\":0,\"same\":0,\"not_shown\":1,\"left_skipped\":2,\"right_skipped\":1}\n"
unfolding document_json_text counts_object counts_json totals_members skipped_members digits
small-in-json s m h = rw (h.left_skipped, h.right_skipped, h.skip_bad, h.left_rows, h.removed, h.added) refl
