-- Worked examples of the definitions: a line that is a document, lines that are known, and other documents under rules.
use Rattle.std.proofs.Common.{◌≡◌, ◌∙◌, ap, arith, subst, sym, refl}
use Rattle.std.proofs.lemmas.List.Elements.{All-cons, All-nil}
use Rattle.std.proofs.lemmas.Option.{same_Some}
use Rattle.std.specs.Prelude.{◌++◌, ℕ, false, true, IsSome, List, [], ◌∷◌, Option, None, Some, codes, option_copied, unwrap_or}
use Rattle.diff_parts.specs.Parts.{PartNumber}
use Rattle.diff_parts.specs.Rows.{has_row}
use Rattle.diff_tables.specs.Tables.{TableRows}
use Rattle.fast_float.specs.Text.{scan}
use Rattle.json.proofs.Printed.Utf8.{IsUtf8-are_ascii}
use Rattle.json.specs.Json.{null, number, object, Members, no_members, member, document, items, members, value}
use Rattle.json.specs.Lex.{lex, punctuate}
use Rattle.json.specs.Print.{escape_byte, print_from}
use Rattle.json.specs.Text.{content}
use Rattle.json.specs.Word.{after_number, word}
use Rattle.json_changes.specs.Differences.{Difference}
use Rattle.json_changes.specs.Rules.{Rules, differences_told, no_rules}
use Rattle.json_decimals.specs.Decimals.{decimal_of, normal_of}
use Rattle.json_decimals.specs.Texts.{digits_text, normal_number, number_text, tens_text}
use Rattle.json_paths.specs.Paths.{Path, name, part_at}
use Rattle.json_paths.specs.Patterns.{Pattern, exactly}
use Rattle.document_rows.specs.Documents.{IsDocument, document_row, key_cells, tree_of}
use Rattle.document_rows.specs.Known.{HoldsDocumentsOf, KnowsLines}
use Rattle.document_rows.specs.Parts.{IsWanted, is_in}
use Rattle.document_rows.specs.Tables.{IsOtherDocument}
use Rattle.document_rows.specs.declared.known.Known.{Known}
use Rattle.document_rows.specs.declared.reading.Reading.{Reading}

abbrev seven : List ℕ
seven = codes "{\"id\": 7}"

abbrev seven_members : Members
seven_members = member (codes "id") (number (codes "7")) no_members

seven-read : document seven ≡ Some (object seven_members)
unfolding value items members lex punctuate content word after_number
seven-read = refl

-- an object without its end is no JSON
unclosed : document (codes "{\"id\": 7") ≡ None
unfolding value items members lex punctuate content word after_number
unclosed = refl

abbrev by_id : List Path
by_id = (name (codes "id") ∷ []) ∷ []

-- {"id": 7} is a document of the key id, however documents are read
seven-document : (reading : Reading) → IsDocument reading by_id seven
unfolding scan
seven-document reading = record {
  utf8 = IsUtf8-are_ascii seven refl;
  members = seven_members;
  json = seven-read;
  unique = (λ i j d before within. absurd (omega (arith, before, within)), (tt, tt));
  narrow = (λ wide. omega arith, tt);
  keys_there = λ strict. All-cons (λ path. IsSome (part_at path (object seven_members))) (name (codes "id") ∷ []) [] refl (All-nil (λ path. IsSome (part_at path (object seven_members))));
}

-- and none of the key n, where a key may not be null
seven-no-n : (reading : Reading) → reading.null_keys ≡ false → IsDocument reading ((name (codes "n") ∷ []) ∷ []) seven → ⊥
seven-no-n reading strict h = none (h.keys_there strict 0 [] (omega arith))
  where
    same : object seven_members ≡ object h.members
    same = same_Some (object seven_members) (object h.members) (sym seven-read ∙ h.json)

    none : IsSome (part_at (name (codes "n") ∷ []) (object h.members)) → ⊥
    none there = let e : false ≡ true = subst (λ j. IsSome (part_at (name (codes "n") ∷ []) j)) (sym same) there in cc e

-- the table of the one line {"id": 7}
abbrev one_seven : TableRows
one_seven = record { width = 2; rows = (codes "7" ∷ seven ∷ []) ∷ []; far = false }

cells-seven : key_cells by_id (object seven_members) ≡ codes "7" ∷ []
unfolding normal_number number_text digits_text tens_text normal_of decimal_of scan print_from escape_byte
cells-seven = refl

-- {"n": 1, "id": 7.0} has the same key, and so it is in the same part, whichever that is
abbrev other_seven : Members
other_seven = member (codes "n") (number (codes "1")) (member (codes "id") (number (codes "7.0")) no_members)

cells-other : key_cells by_id (object other_seven) ≡ codes "7" ∷ []
unfolding normal_number number_text digits_text tens_text normal_of decimal_of scan print_from escape_byte
cells-other = refl

one-part : (part : Option PartNumber) → is_in part by_id (object seven_members) ≡ is_in part by_id (object other_seven)
one-part None = refl
one-part (Some part) = ap (has_row part (0 ∷ [])) (cells-seven ∙ sym cells-other)

row-seven : document_row by_id seven ≡ codes "7" ∷ seven ∷ []
row-seven = ap (λ j. key_cells by_id (unwrap_or j null) ++ seven ∷ []) seven-read ∙ ap (λ cells. cells ++ seven ∷ []) cells-seven

-- however many parts there are, it is in the part that the key "7" is in
seven-wanted : (reading : Reading) → is_in reading.part by_id (tree_of seven) ≡ true → IsWanted reading by_id seven
seven-wanted reading is = record { document = seven-document reading; in_part = is }

seven-held : (reading : Reading) → is_in reading.part by_id (tree_of seven) ≡ true → HoldsDocumentsOf reading by_id one_seven
seven-held reading is = (
  seven ∷ [],
  record {
    documents = All-cons (IsWanted reading by_id) seven [] (seven-wanted reading is) (All-nil (IsWanted reading by_id));
    width = refl;
    rows = ap (λ row. row ∷ []) (sym row-seven);
  },
)

-- with this table the line {"id": 7} is known
seven-known : (reading : Reading) (k : Known) → is_in reading.part by_id (tree_of seven) ≡ true → option_copied k.table ≡ Some one_seven → KnowsLines reading by_id k
seven-known reading k wanted held t is = subst (HoldsDocumentsOf reading by_id) (same_Some one_seven t (sym held ∙ is)) (seven-held reading wanted)

-- ---- under rules

abbrev eight : List ℕ
eight = codes "{\"id\": 8, \"n\": 1}"

abbrev other_eight : List ℕ
other_eight = codes "{\"id\": 8, \"n\": 2}"

-- {"id": 7} and {"id": 8, "n": 1}, and {"id": 8, "n": 2}
abbrev left : TableRows
left = record { width = 2; rows = (codes "7" ∷ seven ∷ []) ∷ (codes "8" ∷ eight ∷ []) ∷ []; far = false }

abbrev right : TableRows
right = record { width = 2; rows = (codes "8" ∷ other_eight ∷ []) ∷ []; far = false }

-- the documents of 8 are partners
abbrev IsOther : Rules → Type 0
IsOther rules = IsOtherDocument rules left right (1 ∷ []) (0 ∷ []) 0

abbrev grown : List Difference
grown = record { path = name (codes "n") ∷ []; left = Some (number (codes "1")); right = Some (number (codes "2")) } ∷ []

abbrev id : Pattern
id = exactly (name (codes "id")) ∷ []

abbrev n : Pattern
n = exactly (name (codes "n")) ∷ []

told : differences_told no_rules (tree_of eight) (tree_of other_eight) ≡ grown
unfolding value items members lex punctuate content word after_number normal_number number_text digits_text tens_text normal_of decimal_of scan
told = refl

-- they differ
other : IsOther no_rules
other none = let both : grown ≡ [] = sym told ∙ none in absurd (cc both)

-- where n is ignored they do not
not-other-ignored : ¬ IsOther (record { ignored = n ∷ []; only = []; missing_is_null = false; tolerances = [] })
unfolding value items members lex punctuate content word after_number normal_number number_text digits_text tens_text normal_of decimal_of scan
not-other-ignored some = some refl

-- nor where only id is asked for
not-other-asked : ¬ IsOther (record { ignored = []; only = id ∷ []; missing_is_null = false; tolerances = [] })
unfolding value items members lex punctuate content word after_number normal_number number_text digits_text tens_text normal_of decimal_of scan
not-other-asked some = some refl

-- where only n is, they do
told-asked : differences_told (record { ignored = []; only = n ∷ []; missing_is_null = false; tolerances = [] }) (tree_of eight) (tree_of other_eight) ≡ grown
unfolding value items members lex punctuate content word after_number normal_number number_text digits_text tens_text normal_of decimal_of scan
told-asked = refl

other-asked : IsOther (record { ignored = []; only = n ∷ []; missing_is_null = false; tolerances = [] })
other-asked none = let both : grown ≡ [] = sym told-asked ∙ none in absurd (cc both)

-- {"id": 7, "n": null}
abbrev null_seven : TableRows
null_seven = record { width = 2; rows = (codes "7" ∷ codes "{\"id\": 7, \"n\": null}" ∷ []) ∷ []; far = false }

-- where a missing part counts as null it is the same document
not-other-missing : ¬ IsOtherDocument (record { ignored = []; only = []; missing_is_null = true; tolerances = [] }) left null_seven (0 ∷ []) (0 ∷ []) 0
unfolding value items members lex punctuate content word after_number normal_number number_text digits_text tens_text normal_of decimal_of scan
not-other-missing some = some refl

told-null : differences_told no_rules (tree_of seven) (tree_of (codes "{\"id\": 7, \"n\": null}")) ≡ record { path = name (codes "n") ∷ []; left = None; right = Some null } ∷ []
unfolding value items members lex punctuate content word after_number normal_number number_text digits_text tens_text normal_of decimal_of scan
told-null = refl

-- without that rule it differs
other-missing : IsOtherDocument no_rules left null_seven (0 ∷ []) (0 ∷ []) 0
other-missing none = let both = sym told-null ∙ none in absurd (cc both)
