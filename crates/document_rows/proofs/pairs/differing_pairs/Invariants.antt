use Rattle.std.proofs.Common.{length}
use Rattle.json_changes.specs.Texts.{rules_view}
use Rattle.document_rows.specs.Tables.{IsOtherDocument}
use Rattle.document_rows.proofs.PairLemmas.{IsProgress}
use Rattle.document_rows.proofs.pairs.differing_pairs.Given as goal

abbrev pub invariant-loop-place : goal.invariant-loop-place
invariant-loop-place l =
    IsProgress (IsOtherDocument (rules_view l.rules) l.left l.right l.comparison.matching.left_rows.items l.comparison.matching.right_rows.items) (length l.comparison.matching.left_rows.items) l.comparison.changed.items l.place-index l.differing.items
