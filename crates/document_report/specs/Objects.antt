-- The report of a comparison of documents as JSON lines.
--
-- {"kind":"changed","key":{"order.id":"A-7"},"left_line":1,"right_line":4,
--  "changes":[{"path":"tags[1]","left":"new"}]}
-- {"kind":"removed","key":{"order.id":"A-9"},"line":12}
-- {"kind":"counts","changed":1,"removed":1,"added":1,"same":5,"not_shown":1}
use Rattle.std.specs.List.{concat}
use Rattle.std.specs.Prelude.{ℕ, List, ◌++◌, length, map, take, codes}
use Rattle.diff_keys.specs.declared.matching.Matching.{Matching}
use Rattle.document_words.specs.Counts.{counts_object}
use Rattle.document_words.specs.Lines.{alone_object}
use Rattle.document_words.specs.declared.sides.DocumentSides.{DocumentSides}
use Rattle.document_report.specs.Pairs.{changed_object}

-- the lines of all differences: changed documents in left order, then removed ones, then added ones
abbrev pub difference_objects : DocumentSides → Matching → List ℕ → List (List ℕ)
difference_objects s m changed = map (changed_object s m) changed
    ++ map (alone_object (codes "removed") s s.left) m.removed.items
    ++ map (alone_object (codes "added") s s.right) m.added.items

-- the first lines, and the counts
unfoldable pub document_json_text : DocumentSides → Matching → List ℕ → ℕ → List ℕ
document_json_text s m changed limit = concat (take limit (difference_objects s m changed))
    ++ counts_object s m (length changed) limit
