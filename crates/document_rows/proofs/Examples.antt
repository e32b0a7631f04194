-- Worked examples of the definitions.
use Rattle.std.proofs.Common.{◌∙◌, arith, inr, sym}
use Rattle.std.proofs.lemmas.List.Elements.{All-nil, Contains-get_or}
use Rattle.std.specs.Prelude.{◌≡◌, ◌++◌, ℕ, false, true, List, [], ◌∷◌, None, Some, length, option_copied, codes, refl}
use Rattle.json.specs.Json.{Json, number, string, object, no_members, member, document}
use Rattle.json.specs.Print.{escape_byte, print_from}
use Rattle.json_paths.specs.Paths.{Path, name}
use Rattle.document_rows.proofs.NumberLemmas.{no_numbers, none_numbered, number_more, number_passed, other_numbered}
use Rattle.document_rows.proofs.RowLemmas.{no_document}
use Rattle.document_rows.specs.Documents.{key_cells}
use Rattle.document_rows.specs.Errors.{IsObject}
use Rattle.document_rows.specs.Known.{HoldsDocumentsOf, KnowsLines}
use Rattle.document_rows.specs.Lines.{lines_of}
use Rattle.document_rows.specs.Numbers.{AreNumbered, AreNumbersOf, numbered_lines}
use Rattle.document_rows.specs.Parts.{IsWanted}
use Rattle.document_rows.specs.Tables.{line_at}
use Rattle.document_faults.specs.declared.fault.LineFault.TheVariants as fault
use Rattle.document_rows.specs.declared.known.Known.{Known}
use Rattle.document_rows.specs.declared.reading.Reading.{Reading}

-- three lines, of which the second is empty and the last has no line feed
three : lines_of (codes "ab" ++ 10 ∷ 10 ∷ codes "c") ≡ codes "ab" ∷ [] ∷ codes "c" ∷ []
unfolding lines_of
three = refl

-- a line feed at the end makes no line more
ended : lines_of (codes "ab" ++ 10 ∷ []) ≡ codes "ab" ∷ []
unfolding lines_of
ended = refl

-- nothing is no line
nothing : lines_of [] ≡ []
unfolding lines_of
nothing = refl

-- {"order": {"id": "A"}}
abbrev order : Json
order = object (member (codes "order") (object (member (codes "id") (string (codes "A")) no_members)) no_members)

-- order.id, and a part that is not there
cells : key_cells ((name (codes "order") ∷ name (codes "id") ∷ []) ∷ (name (codes "n") ∷ []) ∷ []) order ≡ codes "\"A\"" ∷ codes "null" ∷ []
unfolding print_from escape_byte
cells = refl

-- a number is no object
number-object : IsObject (number (codes "1")) → ⊥
number-object h = cc h.1

-- the line of the second of two rows
second : line_at (record { width = 2; rows = (codes "7" ∷ codes "{}" ∷ []) ∷ (codes "8" ∷ codes "[]" ∷ []) ∷ []; far = false }) 1 ≡ codes "[]"
second = refl

-- three lines, of which the second is empty
abbrev lines : List (List ℕ)
lines = codes "a" ∷ [] ∷ codes "b" ∷ []

abbrev HasOneByte : List ℕ → Type 0
HasOneByte line = length line ≡ 1

-- the first one and the last one have one byte
one-byte : AreNumbersOf HasOneByte lines (1 ∷ 3 ∷ [])
one-byte =
    let first : AreNumbersOf HasOneByte (codes "a" ∷ []) (1 ∷ []) = number_more HasOneByte [] (codes "a") [] (no_numbers HasOneByte) refl in
    let second : AreNumbersOf HasOneByte (codes "a" ∷ [] ∷ []) (1 ∷ []) = number_passed HasOneByte (codes "a" ∷ []) [] (1 ∷ []) first (λ h. cc h) in
    number_more HasOneByte (codes "a" ∷ [] ∷ []) (codes "b") (1 ∷ []) second refl

-- the second one does not
no-byte : AreNumbersOf HasOneByte lines (1 ∷ 2 ∷ []) → ⊥
no-byte h =
    let there = (h.all 2).0 (Contains-get_or (1 ∷ 2 ∷ []) 1 0 (omega arith)) in
    let one : 0 ≡ 1 = there.1.1 in
    cc one

-- the lines of two numbers
numbered : numbered_lines lines (1 ∷ 3 ∷ []) ≡ codes "a" ∷ codes "b" ∷ []
numbered = refl

-- where lines are passed over, an empty line is one of them
passed-over : (reading : Reading) (keys : List Path) → reading.skip_bad ≡ true → document [] ≡ None → AreNumbered reading keys ([] ∷ []) [] (1 ∷ [])
passed-over reading keys passes none = other_numbered reading keys [] [] [] [] (none_numbered reading keys) passes (no_document reading keys [] fault.Invalid (inr none))

-- where none is passed over, it makes the text one of no documents
not-passed-over : (reading : Reading) (keys : List Path) (skipped : List ℕ) → reading.skip_bad ≡ false → document [] ≡ None → AreNumbered reading keys ([] ∷ []) [] skipped → ⊥
not-passed-over reading keys skipped strict none h = no_document reading keys [] fault.Invalid (inr none) (h.none_skipped strict 0 [] (omega arith))

-- with no table no line is known
none-known : (reading : Reading) (keys : List Path) (k : Known) → option_copied k.table ≡ None → KnowsLines reading keys k
none-known reading keys k none t is = let both : None ≡ Some t = sym none ∙ is in absurd (cc both)

-- the lines of a table that has no rows are known
none-held : (reading : Reading) → HoldsDocumentsOf reading [] (record { width = 1; rows = []; far = false })
none-held reading = ([], record { documents = All-nil (IsWanted reading []); width = refl; rows = refl })
