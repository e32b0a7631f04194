-- The row numbers of a comparison name documents.
use Rattle.std.proofs.Common.{◌<◌, ℕ, List, length, subst}
use Rattle.std.proofs.lemmas.List.{length-map}
use Rattle.std.specs.Prelude.{All}
use Rattle.diff_keys.specs.Matching.{IsAdded, IsRemoved}
use Rattle.diff_keys.specs.Rising.{ListsRising}
use Rattle.diff_report.proofs.NamedLemmas.{listed_all, listed_few}
use Rattle.diff_tables.proofs.CompareLemmas.{pairs_within}
use Rattle.diff_tables.specs.Comparison.{IsComparison}
use Rattle.diff_tables.specs.Keys.{row_key, row_keys}
use Rattle.diff_tables.specs.declared.compare.Comparison.{Comparison}
use Rattle.document_words.specs.Sides.{NamesDocuments}
use Rattle.document_words.specs.declared.sides.DocumentSides.{DocumentSides}

-- so do those of a comparison of the two tables, and places among its matched rows that are listed in rising order
pub documents_named : (s : DocumentSides) (columns : List ℕ) (c : Comparison) (P : ℕ → Type 0) (changed : List ℕ)
    → IsComparison columns s.left.table.rows s.right.table.rows c → ListsRising P (length c.matching.left_rows.items) changed
    → NamesDocuments s c.matching changed
documents_named s columns c P changed h rising = record {
  pairs = pairs_within columns s.left.table.rows s.right.table.rows c.matching h.matching;
  changed = listed_all P (length c.matching.left_rows.items) changed rising;
  few = listed_few P (length c.matching.left_rows.items) changed rising;
  removed = subst (λ n. All (λ i. i < n) c.matching.removed.items) (length-map s.left.table.rows (row_key columns))
      (listed_all (IsRemoved (row_keys columns s.left.table.rows) (row_keys columns s.right.table.rows)) (length (row_keys columns s.left.table.rows)) c.matching.removed.items h.matching.removed);
  added = subst (λ n. All (λ j. j < n) c.matching.added.items) (length-map s.right.table.rows (row_key columns))
      (listed_all (IsAdded (row_keys columns s.left.table.rows) (row_keys columns s.right.table.rows)) (length (row_keys columns s.right.table.rows)) c.matching.added.items h.matching.added);
}
