-- The documents of a table.
use Rattle.std.proofs.Common.{◌≡◌, ◌<◌, ◌-◌, ◌++◌, ◌∙◌, ℕ, suc, List, [], ◌∷◌, length, get_or, arith, ap, subst, sym}
use Rattle.std.proofs.lemmas.List.{get_or-map, length-map}
use Rattle.std.proofs.lemmas.List.Elements.{All-get_or}
use Rattle.std.proofs.Math.Seq.{get_or-append_seam}
use Rattle.diff_tables.specs.Tables.{TableRows}
use Rattle.document_rows.specs.Documents.{IsDocument, cell_of, document_row, key_cells, tree_of}
use Rattle.document_rows.specs.Parts.{IsWanted}
use Rattle.document_rows.specs.Tables.{HoldsDocuments, line_at}
use Rattle.document_rows.specs.declared.reading.Reading.{Reading}
use Rattle.json_paths.specs.Paths.{Path, part_at}

-- the last cell of a document's row is its line
last_cell : (keys : List Path) (line : List ℕ) (n : ℕ) → n ≡ length keys → get_or (document_row keys line) n [] ≡ line
last_cell keys line n e =
    let parts = key_cells keys (tree_of line) in
    let size : n ≡ length parts = e ∙ sym (length-map keys (λ path. cell_of (part_at path (tree_of line)))) in
    ap (λ k. get_or (parts ++ line ∷ []) k []) size ∙ get_or-append_seam parts line [] []

-- the line of each row of a table of documents is a document
pub document_at : (t : TableRows) (i : ℕ) → HoldsDocuments t → i < length t.rows → (reading : Reading) × (keys : List Path) × IsDocument reading keys (line_at t i)
document_at t i h within =
    let reading = h.0 in
    let keys = h.1 in
    let lines = h.2 in
    let rows = h.3 in
    let count : length t.rows ≡ length lines = ap length rows.rows ∙ length-map lines (document_row keys) in
    let inside : i < length lines = omega (arith, within, count) in
    let row : get_or t.rows i [] ≡ document_row keys (get_or lines i []) = ap (λ l. get_or l i []) rows.rows ∙ get_or-map (document_row keys) lines i [] [] inside in
    let place : t.width - 1 ≡ length keys = omega (arith, rows.width) in
    let line : line_at t i ≡ get_or lines i [] = ap (λ r. get_or r (t.width - 1) []) row ∙ last_cell keys (get_or lines i []) (t.width - 1) place in
    (reading, keys, subst (IsDocument reading keys) (sym line) (All-get_or (IsWanted reading keys) lines i [] inside rows.documents).document)

-- so is the cell after those of the keys
pub document_in : (t : TableRows) (i n : ℕ) (cell : List ℕ) → HoldsDocuments t → i < length t.rows → t.width ≡ suc n → cell ≡ get_or (get_or t.rows i []) n [] → (reading : Reading) × (keys : List Path) × IsDocument reading keys cell
document_in t i n cell h within width read =
    let place : n ≡ t.width - 1 = omega (arith, width) in
    let same : cell ≡ line_at t i = read ∙ ap (λ k. get_or (get_or t.rows i []) k []) place in
    let found = document_at t i h within in
    (found.0, found.1, subst (IsDocument found.0 found.1) (sym same) found.2)
