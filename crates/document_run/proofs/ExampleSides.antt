-- The worked example of a report: the sides of two texts, and which of their documents are changed.
use Rattle.std.proofs.Common.{◌≡◌, ◌≢◌, ◌∙◌, ℕ, suc, false, List, [], ◌∷◌, None, length, map, true, ap, arith, subst, sym, refl}
use Rattle.std.proofs.lemmas.List.{length-map}
use Rattle.std.specs.Prelude.{codes, slice_index}
use Rattle.diff_columns.specs.Names.{names_of}
use Rattle.diff_keys.specs.Rising.{ListsRising}
use Rattle.diff_keys.specs.RisingLaws.{none_listed, one_listed, one_passed}
use Rattle.diff_report.specs.declared.sides.Side.{Side}
use Rattle.diff_run.proofs.OnceLemmas.{one_listing}
use Rattle.diff_words.specs.declared.formats.Format.TheVariants as format
use Rattle.document_rows.specs.Documents.{IsDocument, document_row, tree_of}
use Rattle.document_rows.specs.Lines.{lines_of}
use Rattle.document_rows.specs.Numbers.{AreNumbered, AreNumbersOf, IsNumberOf, numbered_lines}
use Rattle.document_rows.specs.Parts.{IsWanted, is_in}
use Rattle.document_rows.specs.declared.reading.Reading.{Reading}
use Rattle.document_run.specs.Run.{IsSideOf, paths_of, rules_of, tree_at}
use Rattle.document_run.specs.Skipped.{none_kept}
use Rattle.document_run.specs.declared.options.DocumentOptions.{DocumentOptions}
use Rattle.json_changes.specs.Differences.{Difference}
use Rattle.json_changes.specs.Rules.{Rules, differences_told}
use Rattle.json_paths.specs.Paths.{Path}
use Rattle.json_paths.specs.Views.{path_view}
use Rattle.document_run.proofs.ExampleDocuments.{by_id, new_lines, new_one, new_one_is, new_one_tree, new_three, new_three_is, new_three_tree, old_lines, old_one, old_one_is, old_one_tree, old_three, old_three_is, old_three_tree}
use Rattle.document_run.proofs.ExampleLines.{places}

-- the options of dunkelva diff old.ndjson new.ndjson --key id, with these rules
pub record AreById (options : DocumentOptions) (rules : Rules) : Type 0 where
  pub keys : paths_of options ≡ by_id
  pub names : names_of options.names.now ≡ codes "id" ∷ []
  pub told_by : rules_of options ≡ rules
  pub none_skipped : options.reading.skip_bad ≡ false
  pub no_part : options.reading.part ≡ None
  pub limit : options.limit ≡ 20
  pub format : options.format ≡ format.Text
  pub colored : options.colored ≡ false

-- the numbers of three lines of which each one is meant
all-three : (P : List ℕ → Type 0) (a b c : List ℕ) → P a → P b → P c → AreNumbersOf P (a ∷ b ∷ c ∷ []) (1 ∷ 2 ∷ 3 ∷ [])
all-three P a b c first second third =
    let Q : ℕ → Type 0 = IsNumberOf P (a ∷ b ∷ c ∷ []) in
    one_listed Q 3 4 (1 ∷ 2 ∷ []) (one_listed Q 2 3 (1 ∷ []) (one_listed Q 1 2 [] (one_passed Q 0 1 [] (none_listed Q) (λ h. omega (arith, h.0)) refl)
    (omega arith, first) refl) (omega arith, second) refl) (omega arith, third) refl

-- the numbers of those of them that are not
no-others : (P : List ℕ → Type 0) (a b c : List ℕ) → P a → P b → P c → AreNumbersOf (λ line. ¬ P line) (a ∷ b ∷ c ∷ []) []
no-others P a b c first second third =
    let Q : ℕ → Type 0 = IsNumberOf (λ line. ¬ P line) (a ∷ b ∷ c ∷ []) in
    one_passed Q 3 4 [] (one_passed Q 2 3 [] (one_passed Q 1 2 [] (one_passed Q 0 1 [] (none_listed Q) (λ h. omega (arith, h.0)) refl)
    (λ h. h.1 first) refl) (λ h. h.1 second) refl) (λ h. h.1 third) refl

-- where no line is passed over, three lines have their numbers
record AreThree (numbers skipped : List ℕ) : Type 0 where
  numbers_are : numbers ≡ 1 ∷ 2 ∷ 3 ∷ []
  none_skipped : skipped ≡ []

three-numbered : (reading : Reading) (keys : List Path) (a b c : List ℕ) (numbers skipped : List ℕ) → reading.skip_bad ≡ false → reading.part ≡ None → AreNumbered reading keys (a ∷ b ∷ c ∷ []) numbers skipped → AreThree numbers skipped
three-numbered reading keys a b c numbers skipped strict whole h =
    let all = h.none_skipped strict in
    let wanted : (line : List ℕ) → IsDocument reading keys line → IsWanted reading keys line = λ line document. record { document = document; in_part = ap (λ part. is_in part keys (tree_of line)) whole } in
    record {
      numbers_are = one_listing (IsNumberOf (IsWanted reading keys) (a ∷ b ∷ c ∷ [])) 4 numbers (1 ∷ 2 ∷ 3 ∷ []) h.documents
          (all-three (IsWanted reading keys) a b c (wanted a (all 0 [] (omega arith))) (wanted b (all 1 [] (omega arith))) (wanted c (all 2 [] (omega arith))));
      none_skipped = one_listing (IsNumberOf (λ line. ¬ IsDocument reading keys line) (a ∷ b ∷ c ∷ [])) 4 skipped [] h.others
          (no-others (IsDocument reading keys) a b c (all 0 [] (omega arith)) (all 1 [] (omega arith)) (all 2 [] (omega arith)));
    }

-- a side has these rows, from the first three lines of a text
pub record IsRead (side : Side) (skipped : List ℕ) (rows : List (List (List ℕ))) : Type 0 where
  pub numbers : side.lines.items ≡ 1 ∷ 2 ∷ 3 ∷ []
  pub none_skipped : skipped ≡ []
  pub rows_are : side.table.rows ≡ rows
  pub width : side.table.width ≡ 2

pub side_read : (options : DocumentOptions) (rules : Rules) (text name : List ℕ) (side : Side) (skipped a b c : List ℕ) (rows : List (List (List ℕ))) → AreById options rules → lines_of text ≡ a ∷ b ∷ c ∷ []
    → map (document_row by_id) (a ∷ b ∷ c ∷ []) ≡ rows → IsSideOf options text name side skipped → IsRead side skipped rows
side_read options rules text name side skipped a b c rows by lines made h = record {
  numbers = three.numbers_are;
  none_skipped = three.none_skipped;
  rows_are = h.documents.table.rows ∙ (ap (λ keys. map (document_row keys) (numbered_lines (lines_of text) side.lines.items)) by.keys
      ∙ (ap (λ numbers. map (document_row by_id) (numbered_lines (lines_of text) numbers)) three.numbers_are
      ∙ (ap (λ all. map (document_row by_id) (numbered_lines all (1 ∷ 2 ∷ 3 ∷ []))) lines ∙ made)));
  width = h.documents.table.width ∙ ap (λ keys. suc (length keys)) by.keys;
}
  where
    three : AreThree side.lines.items skipped
    three = three-numbered options.reading (paths_of options) a b c side.lines.items skipped by.none_skipped by.no_part
        (subst (λ all. AreNumbered options.reading (paths_of options) all side.lines.items skipped) lines h.documents.numbered)

-- there is one key
pub one_key : (options : DocumentOptions) (rules : Rules) → AreById options rules → length options.keys.now ≡ 1
one_key options rules by = sym (length-map options.keys.now path_view) ∙ ap length by.keys

-- at place k of two lists of places among documents a difference is told
abbrev pub TellsAt : Rules → List (List ℕ) → List (List ℕ) → List ℕ → List ℕ → ℕ → Type 0
TellsAt rules left right lefts rights k = differences_told rules (tree_at left (slice_index lefts k)) (tree_at right (slice_index rights k)) ≢ []

-- what is told between the lines of one key is told between their trees
pub told_one : (rules : Rules) (ds : List Difference) → differences_told rules old_one_tree new_one_tree ≡ ds → differences_told rules (tree_of old_one) (tree_of new_one) ≡ ds
told_one rules ds told = ap (λ j. differences_told rules j (tree_of new_one)) old_one_is ∙ (ap (λ k. differences_told rules old_one_tree k) new_one_is ∙ told)

pub told_three : (rules : Rules) (ds : List Difference) → differences_told rules old_three_tree new_three_tree ≡ ds → differences_told rules (tree_of old_three) (tree_of new_three) ≡ ds
told_three rules ds told = ap (λ j. differences_told rules j (tree_of new_three)) old_three_is ∙ (ap (λ k. differences_told rules old_three_tree k) new_three_is ∙ told)

-- those are changed between which a difference is told
pub changed_listed : (rules : Rules) (one three : List Difference) → differences_told rules (tree_of old_one) (tree_of new_one) ≡ one → differences_told rules (tree_of old_three) (tree_of new_three) ≡ three
    → ListsRising (TellsAt rules old_lines new_lines (0 ∷ 2 ∷ []) (0 ∷ 1 ∷ [])) 2 (places one three)
changed_listed rules [] [] a b =
    let P : ℕ → Type 0 = TellsAt rules old_lines new_lines (0 ∷ 2 ∷ []) (0 ∷ 1 ∷ []) in
    one_passed P 1 2 [] (one_passed P 0 1 [] (none_listed P) (λ some. some a) refl) (λ some. some b) refl
changed_listed rules [] (e ∷ es) a b =
    let P : ℕ → Type 0 = TellsAt rules old_lines new_lines (0 ∷ 2 ∷ []) (0 ∷ 1 ∷ []) in
    one_listed P 1 2 [] (one_passed P 0 1 [] (none_listed P) (λ some. some a) refl) (λ none. let both : e ∷ es ≡ [] = sym b ∙ none in absurd (cc both)) refl
changed_listed rules (d ∷ ds) [] a b =
    let P : ℕ → Type 0 = TellsAt rules old_lines new_lines (0 ∷ 2 ∷ []) (0 ∷ 1 ∷ []) in
    one_passed P 1 2 (0 ∷ []) (one_listed P 0 1 [] (none_listed P) (λ none. let both : d ∷ ds ≡ [] = sym a ∙ none in absurd (cc both)) refl) (λ some. some b) refl
changed_listed rules (d ∷ ds) (e ∷ es) a b =
    let P : ℕ → Type 0 = TellsAt rules old_lines new_lines (0 ∷ 2 ∷ []) (0 ∷ 1 ∷ []) in
    one_listed P 1 2 (0 ∷ []) (one_listed P 0 1 [] (none_listed P) (λ none. let both : d ∷ ds ≡ [] = sym a ∙ none in absurd (cc both)) refl)
    (λ none. let both : e ∷ es ≡ [] = sym b ∙ none in absurd (cc both)) refl

-- where lines 1 and 2 are skipped, and there is no other one, none is kept
none-kept : none_kept [] (1 ∷ 2 ∷ []) ≡ true
none-kept = refl
