-- With no rules the changed documents are those that are not the same.
use Rattle.std.proofs.Common.{◌≡◌, ◌∙◌, ◌<◌, ◌↔◌, ℕ, List, [], length, map, get_or, arith, ap, sym}
use Rattle.std.proofs.lemmas.List.{length-map}
use Rattle.std.specs.Prelude.{◌≢◌, slice_index}
use Rattle.diff_keys.specs.RisingLaws.{listed_as}
use Rattle.diff_keys.specs.declared.outcome.Outcome.{Outcome}
use Rattle.diff_tables.proofs.CompareLemmas.{pairs_within}
use Rattle.document_rows.proofs.DocumentLemmas.{tree_unique}
use Rattle.document_rows.specs.Documents.{IsDocument, document_row}
use Rattle.document_run.specs.Laws.{AreNotSame}
use Rattle.document_run.specs.Run.{HasOthers, IsDocumentReportOf, key_columns, left_documents, paths_of, right_documents, rules_of, tree_at}
use Rattle.document_run.specs.declared.options.DocumentOptions.{DocumentOptions}
use Rattle.json.specs.Json.{Json}
use Rattle.json.specs.Strict.{HasUniqueKeys}
use Rattle.json_changes.proofs.SameLemmas.{none_where_same}
use Rattle.json_changes.proofs.TextLemmas.{all_told}
use Rattle.json_changes.specs.Differences.{differences}
use Rattle.json_changes.specs.Rules.{Rules, differences_told, no_rules}
use Rattle.json_normal.specs.Same.{AreSame}
use Rattle.diff_keys.specs.Rising.{ListsRising}

-- with no rules a difference is told just where two values are not the same
told_apart : (rules : Rules) (j k : Json) → rules ≡ no_rules → HasUniqueKeys j → HasUniqueKeys k → (differences_told rules j k ≢ []) ↔ (¬ AreSame j k)
told_apart rules j k none u v = (
  λ told same. told (all ∙ (none_where_same j k u v).1 same),
  λ apart empty. apart ((none_where_same j k u v).0 (sym all ∙ empty)),
)
  where
    all : differences_told rules j k ≡ differences j k
    all = ap (λ r. differences_told r j k) none ∙ all_told j k

pub changed_not_same : (options : DocumentOptions) (left_text right_text left_name right_name written : List ℕ) (outcome : Outcome) → rules_of options ≡ no_rules
    → (r : IsDocumentReportOf options left_text right_text left_name right_name written outcome)
    → ListsRising (AreNotSame (left_documents left_text r.sides) (right_documents right_text r.sides) r.matching) (length r.matching.left_rows.items) r.changed
changed_not_same options left_text right_text left_name right_name written outcome none r =
    listed_as (HasOthers (rules_of options) left right r.matching) (AreNotSame left right r.matching) (length r.matching.left_rows.items) r.changed at r.changed_are
  where
    left : List (List ℕ)
    left = left_documents left_text r.sides

    right : List (List ℕ)
    right = right_documents right_text r.sides

    rows : List (List ℕ) → List (List (List ℕ))
    rows documents = map (document_row (paths_of options)) documents

    at : (k : ℕ) → k < length r.matching.left_rows.items → HasOthers (rules_of options) left right r.matching k ↔ AreNotSame left right r.matching k
    at k within =
        let pairs = pairs_within (key_columns options) (rows left) (rows right) r.matching r.matched in
        let i = slice_index r.matching.left_rows.items k in
        let j = slice_index r.matching.right_rows.items k in
        let low : i < length left = omega (arith, pairs.left_within k within, length-map left (document_row (paths_of options))) in
        let other : k < length r.matching.right_rows.items = omega (arith, within, pairs.one_length) in
        let few : j < length right = omega (arith, pairs.right_within k other, length-map right (document_row (paths_of options))) in
        let l : IsDocument options.reading (paths_of options) (get_or left i []) = (r.sides_are.left.documents.table.documents i [] low).document in
        let m : IsDocument options.reading (paths_of options) (get_or right j []) = (r.sides_are.right.documents.table.documents j [] few).document in
        told_apart (rules_of options) (tree_at left i) (tree_at right j) none
        (tree_unique options.reading (paths_of options) (get_or left i []) l) (tree_unique options.reading (paths_of options) (get_or right j []) m)
