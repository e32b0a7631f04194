-- Lines that are known, and their rows.
use Rattle.std.proofs.Common.{◌≡◌, ◌<◌, ◌+◌, ◌-◌, ◌∙◌, ℕ, suc, List, [], ◌∷◌, ◌++◌, length, get_or, take, ap, sym, arith, Some, subst}
use Rattle.std.proofs.lemmas.List.{append_assoc, get_or-map, length-map, take_more}
use Rattle.diff_tables.specs.Strings.{AreStrings}
use Rattle.diff_tables.specs.Tables.{TableRows}
use Rattle.json_paths.specs.Paths.{Path}
use Rattle.document_rows.specs.Documents.{document_row, key_cells, tree_of}
use Rattle.document_rows.specs.Known.{HoldsDocumentsOf}
use Rattle.document_rows.specs.Parts.{IsWanted}
use Rattle.document_rows.specs.Rows.{HoldsRows}
use Rattle.document_rows.specs.Tables.{HoldsDocuments, line_at}
use Rattle.document_rows.specs.declared.cells.Rows.{Rows}
use Rattle.document_rows.specs.declared.reading.Reading.{Reading}
use Rattle.document_rows.proofs.DocumentLemmas.{row_count, row_line, tree_is}
use Rattle.document_rows.proofs.RowLemmas.{row_kept}

-- the row of a document is a function of its line
pub record IsRowAt (reading : Reading) (keys : List Path) (t : TableRows) (i : ℕ) : Type 0 where
  pub wanted : IsWanted reading keys (line_at t i)
  pub row : get_or t.rows i [] ≡ document_row keys (line_at t i)
  pub width : length (get_or t.rows i []) ≡ t.width

-- so is each row of a table of documents
pub row_at : (reading : Reading) (keys : List Path) (t : TableRows) → HoldsDocumentsOf reading keys t → (i : ℕ) → i < length t.rows → IsRowAt reading keys t i
row_at reading keys t (lines, h) i within =
    let count : length t.rows ≡ length lines = ap length h.rows ∙ length-map lines (document_row keys) in
    let inside : i < length lines = omega (arith, within, count) in
    let row : get_or t.rows i [] ≡ document_row keys (get_or lines i []) =
    ap (λ (rs : List (List (List ℕ))). get_or rs i []) h.rows ∙ get_or-map (document_row keys) lines i [] [] inside in
    let line : line_at t i ≡ get_or lines i [] = ap (λ (r : List (List ℕ)). get_or r (t.width - 1) []) row ∙ row_line keys (get_or lines i []) t.width h.width in
    record {
      wanted = subst (IsWanted reading keys) (sym line) (h.documents i [] inside);
      row = row ∙ ap (document_row keys) (sym line);
      width = ap length row ∙ (row_count keys (get_or lines i []) ∙ sym h.width);
    }

-- a table of documents that have parts at some keys is a table of documents
pub some_documents : (reading : Reading) (keys : List Path) (t : TableRows) → HoldsDocumentsOf reading keys t → HoldsDocuments t
some_documents reading keys t (lines, h) = (reading, keys, lines, h)

-- the cells of a row up to one more
pub cell_more : (all row : List (List ℕ)) (k : ℕ) (cell : List ℕ) → k < length row → cell ≡ get_or row k [] → (all ++ take k row) ++ cell ∷ [] ≡ all ++ take (k + 1) row
cell_more all row k cell within is =
    append_assoc all (take k row) (cell ∷ [])
    ∙ ap (λ l. all ++ l) (ap (λ c. take k row ++ c ∷ []) is ∙ sym (take_more row k [] within))

-- a row of a table of documents more
pub copy_kept : (reading : Reading) (keys : List Path) (all : List (List ℕ)) (t : TableRows) (i number : ℕ) (old new : Rows) → HoldsDocumentsOf reading keys t → i < length t.rows
    → number ≡ suc (length all) → HoldsRows reading keys all old
    → ((strings : List (List ℕ)) → AreStrings old.cells strings → AreStrings new.cells (strings ++ get_or t.rows i []))
    → new.lines.items ≡ old.lines.items ++ number ∷ [] → new.skipped.items ≡ old.skipped.items → HoldsRows reading keys (all ++ line_at t i ∷ []) new
copy_kept reading keys all t i number old new docs within number_is h cells numbers others =
    let here = row_at reading keys t docs i within in
    let tree = tree_of (line_at t i) in
    row_kept reading keys all (line_at t i) tree number old new (here.wanted.document.json ∙ ap Some (sym (tree_is reading keys (line_at t i) here.wanted.document))) here.wanted number_is h
    (λ strings held. subst (AreStrings new.cells) (ap (λ l. strings ++ l) here.row ∙ sym (append_assoc strings (key_cells keys tree) (line_at t i ∷ []))) (cells strings held)) numbers others
