-- The documents that the rows of a table hold.
use Rattle.std.proofs.Common.{◌≡◌, ◌<◌, ◌-◌, ◌∙◌, ℕ, suc, List, [], ◌∷◌, Some, None, length, get_or, refl, ap, sym, arith, subst, length-append}
use Rattle.std.proofs.lemmas.List.{get_or-map, get_or_push, length-map}
use Rattle.std.specs.Prelude.{unwrap_or}
use Rattle.diff_tables.specs.Tables.{TableRows}
use Rattle.json.specs.Json.{Json, null, object, document}
use Rattle.json.specs.Strict.{HasUniqueKeys}
use Rattle.json_normal.proofs.TextLemmas.{texts_tell}
use Rattle.json_normal.specs.Narrow.{HasNarrowNumbers}
use Rattle.json_normal.specs.Same.{AreSame}
use Rattle.json_paths.specs.Paths.{Path, part_at}
use Rattle.document_rows.specs.Documents.{IsDocument, cell_of, document_row, key_cells, tree_of}
use Rattle.document_rows.specs.Tables.{HoldsDocuments, line_at}
use Rattle.document_rows.specs.declared.reading.Reading.{Reading}

-- a value has a cell for each key
pub cells_count : (keys : List Path) (j : Json) → length (key_cells keys j) ≡ length keys
cells_count keys j = length-map keys (λ path. cell_of (part_at path j))

-- a row has a cell for each key and one more
pub row_count : (keys : List Path) (line : List ℕ) → length (document_row keys line) ≡ suc (length keys)
row_count keys line =
    let cells : length (key_cells keys (tree_of line)) ≡ length keys = cells_count keys (tree_of line) in
    let both : length (document_row keys line) ≡ _ = length-append (key_cells keys (tree_of line)) (line ∷ []) in
    omega (arith, cells, both)

-- the last cell of a row is the line
pub row_line : (keys : List Path) (line : List ℕ) (w : ℕ) → w ≡ suc (length keys) → get_or (document_row keys line) (w - 1) [] ≡ line
row_line keys line w e =
    let cells : length (key_cells keys (tree_of line)) ≡ length keys = cells_count keys (tree_of line) in
    get_or_push (key_cells keys (tree_of line)) line [] (w - 1) (omega (arith, cells, e))

-- a row of the table, the document that it was made of, and how many cells it has
pub record IsRowOf (t : TableRows) (i : ℕ) : Type 0 where
  pub reading : Reading
  pub keys : List Path
  pub document : IsDocument reading keys (line_at t i)
  pub width : length (get_or t.rows i []) ≡ t.width

-- each row of a table of documents was made of one
pub row_of : (t : TableRows) → HoldsDocuments t → (i : ℕ) → i < length t.rows → IsRowOf t i
row_of t (reading, keys, lines, h) i within =
    let count : length t.rows ≡ length lines = ap length h.rows ∙ length-map lines (document_row keys) in
    let inside : i < length lines = omega (arith, within, count) in
    let row : get_or t.rows i [] ≡ document_row keys (get_or lines i []) =
    ap (λ (rs : List (List (List ℕ))). get_or rs i []) h.rows ∙ get_or-map (document_row keys) lines i [] [] inside in
    let line : line_at t i ≡ get_or lines i [] = ap (λ (r : List (List ℕ)). get_or r (t.width - 1) []) row ∙ row_line keys (get_or lines i []) t.width h.width in
    record {
      reading = reading;
      keys = keys;
      document = subst (IsDocument reading keys) (sym line) (h.documents i [] inside).document;
      width = ap length row ∙ (row_count keys (get_or lines i []) ∙ sym h.width);
    }

-- the value of a document is an object
pub tree_is : (reading : Reading) (keys : List Path) (line : List ℕ) (d : IsDocument reading keys line) → tree_of line ≡ object d.members
tree_is reading keys line d = ap (λ o. unwrap_or o null) d.json

-- no name comes twice in the value of a document
pub tree_unique : (reading : Reading) (keys : List Path) (line : List ℕ) → IsDocument reading keys line → HasUniqueKeys (tree_of line)
tree_unique reading keys line d = subst HasUniqueKeys (sym (tree_is reading keys line d)) d.unique

-- no number of a document has a wide exponent
pub tree_narrow : (reading : Reading) (keys : List Path) (line : List ℕ) → IsDocument reading keys line → HasNarrowNumbers (tree_of line)
tree_narrow reading keys line d = subst HasNarrowNumbers (sym (tree_is reading keys line d)) d.narrow

-- the value that is read of a line is its value
pub tree_read : (line text : List ℕ) (j : Json) → text ≡ line → document text ≡ Some j → tree_of line ≡ j
tree_read line text j same read = ap (λ o. unwrap_or o null) (ap document (sym same) ∙ read)

-- a document is the same as itself
pub same_tree : (reading : Reading) (keys : List Path) (line : List ℕ) → IsDocument reading keys line → AreSame (tree_of line) (tree_of line)
same_tree reading keys line d = (texts_tell (tree_of line) (tree_of line) (tree_unique reading keys line d) (tree_unique reading keys line d)).1 refl

-- two rows that are the same were made of the same line
pub same_line : (left right : TableRows) (i j : ℕ) → IsRowOf left i → IsRowOf right j → get_or left.rows i [] ≡ get_or right.rows j [] → line_at left i ≡ line_at right j
same_line left right i j l r same =
    let width : left.width ≡ right.width = sym l.width ∙ (ap length same ∙ r.width) in
    ap (λ (row : List (List ℕ)). get_or row (left.width - 1) []) same ∙ ap (λ (w : ℕ). get_or (get_or right.rows j []) (w - 1) []) width

-- a document has a value
pub has_value : (reading : Reading) (keys : List Path) (line text : List ℕ) → IsDocument reading keys line → text ≡ line → document text ≡ None → ⊥
has_value reading keys line text d same none =
    let some : document text ≡ Some (object d.members) = ap document same ∙ d.json in
    absurd (cc)
