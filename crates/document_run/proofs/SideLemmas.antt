-- Sides that have the documents of texts.
use Rattle.std.proofs.Common.{◌≡◌, ◌∙◌, ◌<◌, ◌≤◌, ◌+◌, ◌-◌, ◌^◌, ◌↔◌, ℕ, suc, List, [], length, get_or, map, arith, ap, sym, subst}
use Rattle.std.proofs.lemmas.List.{get_or-map, get_or_push, length-map}
use Rattle.std.proofs.lemmas.List.Elements.{All-from_get_or}
use Rattle.std.proofs.lemmas.List.FromFn.{get_or-range_with_len, length-range_with_len}
use Rattle.std.specs.List.{range_with_len}
use Rattle.std.specs.Prelude.{All, slice_index}
use Rattle.diff_columns.specs.declared.error.Side.TheVariants.{Left, Right}
use Rattle.diff_keys.specs.Matching.{IsAdded, IsRemoved}
use Rattle.diff_keys.specs.RisingLaws.{listed_as}
use Rattle.diff_keys.specs.Unique.{IsFirstTwice}
use Rattle.diff_report.proofs.NamedLemmas.{listed_all, listed_few}
use Rattle.diff_report.specs.declared.sides.Side.{Side as Table}
use Rattle.diff_keys.specs.declared.outcome.Outcome.{Outcome}
use Rattle.diff_tables.proofs.CompareLemmas.{pairs_within}
use Rattle.diff_tables.specs.Keys.{row_key, row_keys}
use Rattle.diff_tables.specs.Tables.{TableRows}
use Rattle.document_report.specs.Documents.{HoldDocuments}
use Rattle.document_rows.specs.Documents.{cell_of, document_row, tree_of}
use Rattle.document_rows.specs.Lines.{lines_of}
use Rattle.document_rows.specs.Numbers.{numbered_line}
use Rattle.document_rows.specs.Tables.{AreRowsOf, IsOtherDocument, line_at}
use Rattle.document_rows.specs.declared.reading.Reading.{Reading}
use Rattle.document_run.specs.Faults.{HasKeyTwice, HasTwice, IsDocumentFault, IsRowsFault}
use Rattle.document_run.specs.Run.{AreSidesOf, HasOthers, IsDocumentReportOf, IsSideOf, document_keys, documents_at, key_columns, left_documents, paths_of, right_documents, rules_of}
use Rattle.document_run.specs.Sides.{AreComparable, HasDocuments, IsFoundOn, IsKeyed, IsReportOn}
use Rattle.document_run.specs.declared.error.DocumentError.{DocumentError}
use Rattle.document_run.specs.declared.error.DocumentError.TheVariants as error
use Rattle.document_run.specs.declared.found.Found.{Found}
use Rattle.document_run.specs.declared.options.DocumentOptions.{DocumentOptions}
use Rattle.document_words.specs.Sides.{AreDocumentSides, IsDocumentSide, NamesDocuments}
use Rattle.document_words.specs.declared.sides.DocumentSides.{DocumentSides}
use Rattle.json_changes.specs.Rules.{differences_told}
use Rattle.json_paths.specs.Paths.{Path, part_at}
use Rattle.json_paths.specs.Views.{path_view}

-- as many rows as lines
pub length_rows : (reading : Reading) (keys : List Path) (lines : List (List ℕ)) (t : TableRows) → AreRowsOf reading keys lines t → length t.rows ≡ length lines
length_rows reading keys lines t h = ap length h.rows ∙ length-map lines (document_row keys)

-- the line of a row is its last cell
pub line_is : (reading : Reading) (keys : List Path) (lines : List (List ℕ)) (t : TableRows) (i : ℕ) → AreRowsOf reading keys lines t → i < length lines → line_at t i ≡ get_or lines i []
line_is reading keys lines t i h within =
    ap (λ cells. get_or cells (t.width - 1) []) row ∙ get_or_push (map cell keys) (get_or lines i []) [] (t.width - 1) (sym place)
  where
    cell : Path → List ℕ
    cell path = cell_of (part_at path (tree_of (get_or lines i [])))

    row : get_or t.rows i [] ≡ document_row keys (get_or lines i [])
    row = ap (λ rows. get_or rows i []) h.rows ∙ get_or-map (document_row keys) lines i [] [] within

    place : t.width - 1 ≡ length (map cell keys)
    place = omega (arith, h.width, length-map keys cell)

-- the columns of so many keys are within a table that has one more
pub columns_within : (k w : ℕ) → w ≡ suc k → All (λ c. c < w) (range_with_len 0 k)
columns_within k w e = All-from_get_or (λ c. c < w) (range_with_len 0 k) 0 (λ i within.
    let low : i < k = omega (arith, within, length-range_with_len 0 k) in
    let at : get_or (range_with_len 0 k) i 0 ≡ 0 + i = get_or-range_with_len 0 k i 0 low in
    omega (arith, at, low, e))

-- a side that has documents has a cell for each key and a line number for each row
pub is_document_side : (options : DocumentOptions) (side : Table) → HasDocuments options side → IsDocumentSide (length options.keys.now) side
is_document_side options side h = record {
  width = h.table.width ∙ ap suc (length-map options.keys.now path_view);
  lines = h.lines ∙ sym (length_rows options.reading (paths_of options) h.all side.table h.table);
}

pub is_keyed : (options : DocumentOptions) (side : Table) → HasDocuments options side → IsKeyed (key_columns options) side
is_keyed options side h =
    let fits = is_document_side options side h in
    record { columns_within = columns_within (length options.keys.now) side.table.width fits.width; lines = fits.lines }

-- sides that can be compared are as a report takes them
pub are_document_sides : (options : DocumentOptions) (s : DocumentSides) → AreComparable options s → AreDocumentSides s
are_document_sides options s h = record {
  left = subst (λ n. IsDocumentSide n s.left) (sym h.keys) (is_document_side options s.left h.left);
  right = subst (λ n. IsDocumentSide n s.right) (sym h.keys) (is_document_side options s.right h.right);
}

pub hold_documents : (options : DocumentOptions) (s : DocumentSides) → AreComparable options s → HoldDocuments s
hold_documents options s h = record {
  left = (options.reading, paths_of options, h.left.all, h.left.table);
  right = (options.reading, paths_of options, h.right.all, h.right.table);
}

-- what is found names rows of the tables
pub documents_named : (options : DocumentOptions) (s : DocumentSides) (f : Found) → IsFoundOn options s f → NamesDocuments s f.matching f.changed.items
documents_named options s f h = record {
  pairs = pairs_within (key_columns options) s.left.table.rows s.right.table.rows f.matching h.matched;
  changed = listed_all (IsOtherDocument (rules_of options) s.left.table s.right.table f.matching.left_rows.items f.matching.right_rows.items) (length f.matching.left_rows.items) f.changed.items h.changed;
  few = listed_few (IsOtherDocument (rules_of options) s.left.table s.right.table f.matching.left_rows.items f.matching.right_rows.items) (length f.matching.left_rows.items) f.changed.items h.changed;
  removed = subst (λ n. All (λ i. i < n) f.matching.removed.items) (length-map s.left.table.rows (row_key (key_columns options)))
      (listed_all (IsRemoved (row_keys (key_columns options) s.left.table.rows) (row_keys (key_columns options) s.right.table.rows)) (length (row_keys (key_columns options) s.left.table.rows)) f.matching.removed.items h.matched.removed);
  added = subst (λ n. All (λ j. j < n) f.matching.added.items) (length-map s.right.table.rows (row_key (key_columns options)))
      (listed_all (IsAdded (row_keys (key_columns options) s.left.table.rows) (row_keys (key_columns options) s.right.table.rows)) (length (row_keys (key_columns options) s.right.table.rows)) f.matching.added.items h.matched.added);
}

-- the documents of two rows are those at their places
pub same_others : (options : DocumentOptions) (left_text right_text left_name right_name : List ℕ) (s : DocumentSides) (f : Found) → AreSidesOf options left_text right_text left_name right_name s → IsFoundOn options s f
    → (k : ℕ) → k < length f.matching.left_rows.items → IsOtherDocument (rules_of options) s.left.table s.right.table f.matching.left_rows.items f.matching.right_rows.items k ↔ HasOthers (rules_of options) (left_documents left_text s) (right_documents right_text s) f.matching k
same_others options left_text right_text left_name right_name s f sides h k within = (
  λ other none. other (subst (λ line. differences_told (rules_of options) (tree_of line) (tree_of (line_at s.right.table j)) ≡ []) (sym el)
      (subst (λ line. differences_told (rules_of options) (tree_of (get_or (left_documents left_text s) i [])) (tree_of line) ≡ []) (sym er) none)),
  λ other none. other (subst (λ line. differences_told (rules_of options) (tree_of line) (tree_of (get_or (right_documents right_text s) j [])) ≡ []) el
      (subst (λ line. differences_told (rules_of options) (tree_of (line_at s.left.table i)) (tree_of line) ≡ []) er none)),
)
  where
    i : ℕ
    i = slice_index f.matching.left_rows.items k

    j : ℕ
    j = slice_index f.matching.right_rows.items k

    l : AreRowsOf options.reading (paths_of options) (left_documents left_text s) s.left.table
    l = sides.left.documents.table

    r : AreRowsOf options.reading (paths_of options) (right_documents right_text s) s.right.table
    r = sides.right.documents.table

    el : line_at s.left.table i ≡ get_or (left_documents left_text s) i []
    el =
        let pairs = pairs_within (key_columns options) s.left.table.rows s.right.table.rows f.matching h.matched in
        line_is options.reading (paths_of options) (left_documents left_text s) s.left.table i l (omega (arith, pairs.left_within k within, length_rows options.reading (paths_of options) (left_documents left_text s) s.left.table l))

    er : line_at s.right.table j ≡ get_or (right_documents right_text s) j []
    er =
        let pairs = pairs_within (key_columns options) s.left.table.rows s.right.table.rows f.matching h.matched in
        let there : k < length f.matching.right_rows.items = omega (arith, within, pairs.one_length) in
        line_is options.reading (paths_of options) (right_documents right_text s) s.right.table j r (omega (arith, pairs.right_within k there, length_rows options.reading (paths_of options) (right_documents right_text s) s.right.table r))

-- the report of the sides of two texts is that of the texts
pub report_is : (options : DocumentOptions) (left_text right_text left_name right_name : List ℕ) (s : DocumentSides) (written : List ℕ) (outcome : Outcome) → AreSidesOf options left_text right_text left_name right_name s
    → IsReportOn options s written outcome → IsDocumentReportOf options left_text right_text left_name right_name written outcome
report_is options left_text right_text left_name right_name s written outcome sides report =
    let l = sides.left.documents.table.rows in
    let r = sides.right.documents.table.rows in
    let f = report.found in
    let on = report.found_on in
    record {
      sides = s;
      matching = f.matching;
      changed = f.changed.items;
      sides_are = sides;
      matched = rw (l, r) at on.matched;
      changed_are = listed_as (IsOtherDocument (rules_of options) s.left.table s.right.table f.matching.left_rows.items f.matching.right_rows.items) (HasOthers (rules_of options) (left_documents left_text s) (right_documents right_text s) f.matching) (length f.matching.left_rows.items) f.changed.items
          (same_others options left_text right_text left_name right_name s f sides on) on.changed;
      unique = λ asked. let both = on.unique asked in (rw l at both.0, rw r at both.1);
      text = report.text;
      outcome_is = report.outcome_is;
    }

-- two rows of one key are those of two lines
pub twice_is : (options : DocumentOptions) (text name : List ℕ) (side : Table) (skipped : List ℕ) (first again : ℕ) → IsSideOf options text name side skipped → HasKeyTwice side (key_columns options) first again → HasTwice options text first again
twice_is options text name side skipped first again h (t, twice, first_is, again_is) =
    let moved : IsFirstTwice (document_keys options (documents_at text side.lines.items)) t = rw h.documents.table.rows at twice in
    (side.lines.items, (skipped, h.documents.numbered), (t, moved, first_is, again_is))

-- as many keys as documents
length_keys : (options : DocumentOptions) (text name : List ℕ) (side : Table) (skipped : List ℕ) → IsSideOf options text name side skipped → length (row_keys (key_columns options) side.table.rows) ≡ length side.lines.items
length_keys options text name side skipped h =
    length-map side.table.rows (row_key (key_columns options))
    ∙ (length_rows options.reading (paths_of options) (documents_at text side.lines.items) side.table h.documents.table ∙ length-map side.lines.items (numbered_line (lines_of text)))

-- sides that can't be compared are those of the two texts
pub rows_fault : (options : DocumentOptions) (left_text right_text left_name right_name : List ℕ) (s : DocumentSides) (e : DocumentError) → AreSidesOf options left_text right_text left_name right_name s
    → IsRowsFault options s e → IsDocumentFault options left_text right_text e
rows_fault options left_text right_text left_name right_name s error.Memory sides fault = fault
rows_fault options left_text right_text left_name right_name s error.TooManyRows sides fault = (
  s.left.lines.items,
  s.right.lines.items,
  (s.left_skipped.items, sides.left.documents.numbered),
  (s.right_skipped.items, sides.right.documents.numbered),
  λ few. fault (
    subst (λ n. n ≤ 2 ^ 32) (sym (length_keys options left_text left_name s.left s.left_skipped.items sides.left)) few.0,
    subst (λ n. n ≤ 2 ^ 32) (sym (length_keys options right_text right_name s.right s.right_skipped.items sides.right)) few.1,
  ),
)
rows_fault options left_text right_text left_name right_name s (error.Read side cause) sides fault = absurd fault
rows_fault options left_text right_text left_name right_name s (error.AllSkipped side) sides fault = absurd fault
rows_fault options left_text right_text left_name right_name s (error.KeyTwice Left first again) sides (asked, twice) = (asked, twice_is options left_text left_name s.left s.left_skipped.items first again sides.left twice)
rows_fault options left_text right_text left_name right_name s (error.KeyTwice Right first again) sides (asked, twice) = (asked, twice_is options right_text right_name s.right s.right_skipped.items first again sides.right twice)
rows_fault options left_text right_text left_name right_name s (error.Write cause) sides fault = absurd fault
