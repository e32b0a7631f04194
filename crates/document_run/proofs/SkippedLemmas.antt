-- Texts of which every line is skipped.
use Rattle.std.proofs.Common.{◌≡◌, ◌∙◌, ◌<◌, ◌-◌, ℕ, suc, false, true, List, [], ◌∷◌, None, length, get_or, arith, sym, refl, subst}
use Rattle.std.proofs.lemmas.Bool.Decides.{nat_tests}
use Rattle.std.proofs.lemmas.List.{get_or_default}
use Rattle.std.specs.List.{Contains}
use Rattle.std.specs.Prelude.{◌≢◌, ◌==◌, ◌&&◌, All, not}
use Rattle.diff_columns.specs.declared.error.Side.{Side}
use Rattle.diff_run.specs.Faults.{text_on}
use Rattle.document_rows.specs.Documents.{IsDocument, tree_of}
use Rattle.document_rows.specs.Lines.{lines_of}
use Rattle.document_rows.specs.Numbers.{AreNumbered, numbered_line}
use Rattle.document_rows.specs.Parts.{IsWanted, is_in}
use Rattle.document_rows.specs.declared.reading.Reading.{Reading}
use Rattle.document_run.specs.Faults.{IsDocumentFault}
use Rattle.document_run.specs.Run.{HasNoDocument, IsSideOf, paths_of}
use Rattle.document_run.specs.Skipped.{IsSkippedFault, none_kept}
use Rattle.document_run.specs.declared.error.DocumentError.{DocumentError}
use Rattle.document_run.specs.declared.inputs.ReadSide.{ReadSide}
use Rattle.document_run.specs.declared.options.DocumentOptions.{DocumentOptions}
use Rattle.json_paths.specs.Paths.{Path}

-- lines of which none is kept, of all documents, are no documents
none_is : (reading : Reading) (keys : List Path) (lines : List (List ℕ)) (skipped : List ℕ) → AreNumbered reading keys lines [] skipped → reading.part ≡ None
    → All (λ line. ¬ (IsDocument reading keys line)) lines
none_is reading keys lines skipped h whole k other within document =
    let place : suc k - 1 ≡ k = omega arith in
    let same : get_or lines k other ≡ numbered_line lines (suc k) = get_or_default lines k other [] within ∙ subst (λ n. get_or lines k [] ≡ get_or lines n []) (sym place) refl in
    let wanted : IsWanted reading keys (get_or lines k other) = record { document = document; in_part = subst (λ part. is_in part keys (tree_of (get_or lines k other)) ≡ true) (sym whole) refl } in
    let (j, inside, is) = (h.documents.all (suc k)).1 (omega (arith, within), (omega arith, subst (λ line. IsWanted reading keys line) same wanted)) in
    omega (arith, inside)

-- of lines that are no documents none is kept
no_numbers : (reading : Reading) (keys : List Path) (lines : List (List ℕ)) (numbers skipped : List ℕ) → AreNumbered reading keys lines numbers skipped
    → All (λ line. ¬ (IsDocument reading keys line)) lines → numbers ≡ []
no_numbers reading keys lines [] skipped h none = refl
no_numbers reading keys lines (n ∷ ns) skipped h none =
    let there : Contains (n ∷ ns) n = (0, omega arith, refl) in
    let (low, is) = (h.documents.all n).0 there in
    absurd (none (n - 1) [] (omega (arith, low, is.0)) is.1.document)

-- of lines that are no documents the first one is skipped
some_skipped : (reading : Reading) (keys : List Path) (lines : List (List ℕ)) (numbers skipped : List ℕ) → AreNumbered reading keys lines numbers skipped
    → All (λ line. ¬ (IsDocument reading keys line)) lines → lines ≢ [] → skipped ≢ []
some_skipped reading keys [] numbers skipped h none some e = some refl
some_skipped reading keys (line ∷ lines) numbers skipped h none some e =
    let there : Contains skipped 1 = (h.others.all 1).1 (omega arith, (omega arith, none 0 [] (omega arith))) in
    let (j, inside, is) = subst (λ ns. Contains ns 1) e there in
    omega (arith, inside)

not_none : (n : ℕ) → 0 < n → (n == 0) ≡ false
not_none n h = grind (arith, nat_tests)

-- no numbers and some that are skipped
kept_none : (numbers skipped : List ℕ) → numbers ≡ [] → skipped ≢ [] → none_kept numbers skipped ≡ true
kept_none numbers [] e some = absurd (some refl)
kept_none numbers (s ∷ skipped) e some = rw (e, not_none (suc (length skipped)) (omega arith)) refl

none_from : (numbers skipped : List ℕ) → none_kept numbers skipped ≡ true → numbers ≡ []
none_from [] skipped e = refl
none_from (n ∷ numbers) skipped e =
    let clash : false ≡ true = subst (λ b. (b && not (length skipped == 0)) ≡ true) (not_none (suc (length numbers)) (omega arith)) e in
    absurd (cc clash)

some_from : (numbers skipped : List ℕ) → none_kept numbers skipped ≡ true → 0 < length skipped
some_from [] [] e = absurd (cc e)
some_from [] (s ∷ skipped) e = omega arith
some_from (n ∷ numbers) skipped e =
    let clash : false ≡ true = subst (λ b. (b && not (length skipped == 0)) ≡ true) (not_none (suc (length numbers)) (omega arith)) e in
    absurd (cc clash)

-- a text with a line of some number has lines
has_lines : (reading : Reading) (keys : List Path) (lines : List (List ℕ)) (numbers skipped : List ℕ) → AreNumbered reading keys lines numbers skipped → 0 < length skipped → lines ≢ []
has_lines reading keys lines numbers [] h some e = omega (arith, some)
has_lines reading keys lines numbers (n ∷ skipped) h some e =
    let there : Contains (n ∷ skipped) n = (0, omega arith, refl) in
    let (low, is) = (h.others.all n).0 there in
    let none : length lines ≡ 0 = rw e refl in
    omega (arith, low, is.0, none)

-- a side of which a document is kept, or no line is skipped, is that of a text with a document, or without lines
pub side_some : (options : DocumentOptions) (text name : List ℕ) (read : ReadSide) → IsSideOf options text name read.table read.skipped.items
    → none_kept read.table.lines.items read.skipped.items ≡ false → ¬ (HasNoDocument options text)
side_some options text name read side kept (some, none) =
    let numbered = side.documents.numbered in
    let numbers = no_numbers options.reading (paths_of options) (lines_of text) read.table.lines.items read.skipped.items numbered none in
    let skipped = some_skipped options.reading (paths_of options) (lines_of text) read.table.lines.items read.skipped.items numbered none some in
    let clash : false ≡ true = sym kept ∙ kept_none read.table.lines.items read.skipped.items numbers skipped in
    absurd (cc clash)

-- a side of which every line is skipped is that of a text with lines and without a document
side_none : (options : DocumentOptions) (text name : List ℕ) (read : ReadSide) → IsSideOf options text name read.table read.skipped.items → options.reading.part ≡ None
    → none_kept read.table.lines.items read.skipped.items ≡ true → HasNoDocument options text
side_none options text name read side whole e =
    let numbered = side.documents.numbered in
    let numbers = none_from read.table.lines.items read.skipped.items e in (
      has_lines options.reading (paths_of options) (lines_of text) read.table.lines.items read.skipped.items numbered (some_from read.table.lines.items read.skipped.items e),
      none_is options.reading (paths_of options) (lines_of text) read.skipped.items (subst (λ ns. AreNumbered options.reading (paths_of options) (lines_of text) ns read.skipped.items) numbers numbered) whole,
    )

-- so the two texts are not compared
pub skipped_fault : (options : DocumentOptions) (left_text right_text name : List ℕ) (read : ReadSide) (side : Side) (e : DocumentError)
    → IsSideOf options (text_on side left_text right_text) name read.table read.skipped.items → IsSkippedFault options read side e → IsDocumentFault options left_text right_text e
skipped_fault options left_text right_text name read side e is (named, whole, none) =
    subst (λ fault. IsDocumentFault options left_text right_text fault) (sym named) (side_none options (text_on side left_text right_text) name read is whole none)
