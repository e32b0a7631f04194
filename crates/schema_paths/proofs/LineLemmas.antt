-- The lines of a table of documents.
use Rattle.std.proofs.Common.{◌≡◌, ◌<◌, ◌+◌, ◌-◌, ◌∙◌, ◌++◌, ◌∷◌, ℕ, List, [], length, map, take, get_or, sym, ap, subst, arith}
use Rattle.std.proofs.lemmas.List.{get_or-map, length-map, map-append, take_all, take_more}
use Rattle.std.proofs.lemmas.List.Elements.{All-push}
use Rattle.diff_tables.specs.Tables.{TableRows}
use Rattle.document_rows.specs.Documents.{document_row, tree_of}
use Rattle.document_rows.specs.Tables.{AreRowsOf, line_at}
use Rattle.document_rows.specs.declared.reading.Reading.{Reading}
use Rattle.json.specs.Json.{Json}
use Rattle.json.specs.Tree.{HasNumbers}
use Rattle.json_groups.specs.Groups.{HoldsDocuments}
use Rattle.json_groups.specs.declared.groups.Groups.{Groups}
use Rattle.json_parts.specs.Parts.{Part, parts_below}
use Rattle.schema_paths.specs.Documents.{AreGathered, parts_in}
use Rattle.schema_paths.specs.Kinds.{HasKinds}
use Rattle.schema_paths.specs.declared.kinds.Kinds.{Kinds}

-- there is a row for each line
pub lines_many : (reading : Reading) (t : TableRows) (lines : List (List ℕ)) → AreRowsOf reading [] lines t → length t.rows ≡ length lines
lines_many reading t lines rows = ap length rows.rows ∙ length-map lines (document_row [])

line_is : (reading : Reading) (t : TableRows) (lines : List (List ℕ)) → AreRowsOf reading [] lines t → (i : ℕ) → i < length lines → line_at t i ≡ get_or lines i []
line_is reading t lines rows i low =
    ap (λ (w : ℕ). get_or (get_or t.rows i []) (w - 1) []) rows.width
    ∙ ap (λ (rs : List (List (List ℕ))). get_or (get_or rs i []) 0 []) rows.rows ∙ ap (λ (r : List (List ℕ)). get_or r 0 []) (get_or-map (document_row []) lines i [] [] low)

-- the lines of the first rows, and that of the next one
pub line_more : (reading : Reading) (t : TableRows) (lines : List (List ℕ)) → AreRowsOf reading [] lines t → (i : ℕ) → i < length t.rows → take i lines ++ line_at t i ∷ [] ≡ take (i + 1) lines
line_more reading t lines rows i within =
    let low : i < length lines = omega (arith, within, lines_many reading t lines rows) in
    ap (λ line. take i lines ++ line ∷ []) (line_is reading t lines rows i low) ∙ sym (take_more lines i [] low)

-- the document of one line more
pub gathered_more : (lines : List (List ℕ)) (line : List ℕ) (j : Json) (old new : Groups Kinds) → AreGathered lines old → j ≡ tree_of line → HasNumbers j
    → ((documents : List (List Part)) → HoldsDocuments HasKinds documents old → HoldsDocuments HasKinds (documents ++ parts_below [] j ∷ []) new) → AreGathered (lines ++ line ∷ []) new
gathered_more lines line j old new h value numbers added =
    let parts : map parts_in lines ++ parts_below [] j ∷ [] ≡ map parts_in (lines ++ line ∷ []) =
    ap (λ k. map parts_in lines ++ parts_below [] k ∷ []) value ∙ sym (map-append parts_in lines (line ∷ [])) in
    record {
      held = subst (λ ds. HoldsDocuments HasKinds ds new) parts (added (map parts_in lines) h.held);
      numbers = All-push (λ l. HasNumbers (tree_of l)) lines line h.numbers (subst HasNumbers value numbers);
    }
