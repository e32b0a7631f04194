-- The rows of two sorted texts, matched by key.
--
-- Of the left rows "7", "8" and the right rows "7", "9" rows 0 and 0 are partners, left row 1 is
-- removed, and right row 1 is added.
use Rattle.std.specs.Prelude.{◌≡◌, ℕ, List}
use Rattle.diff_csv.specs.declared.options.CsvOptions.{CsvOptions}
use Rattle.diff_keys.specs.declared.matching.Matching.{Matching}
use Rattle.diff_merge.specs.Merging.{IsMergeOf}
use Rattle.diff_merge.specs.Rows.{Seen}
use Rattle.diff_merge.specs.declared.cursor.Cursor.{Cursor}
use Rattle.diff_merge.specs.declared.pairing.Pairing.{Pairing}

-- a pairing has the rows of a matching
pub record ListsSame (p : Pairing) (m : Matching) : Type 0 where
  pub left_rows : p.left_rows.items ≡ m.left_rows.items
  pub right_rows : p.right_rows.items ≡ m.right_rows.items
  pub removed : p.removed.items ≡ m.removed.items
  pub added : p.added.items ≡ m.added.items

-- the pairing is that of all rows of two texts, matched by key
abbrev pub IsPairingOf : {L R : Type 0} → CsvOptions → List ℕ → List ℕ → Cursor L → Cursor R
    → Pairing → Type 0
IsPairingOf options left_text right_text left right p = IsMergeOf
    (λ (q : Pairing) (left_rows right_rows : List Seen) (m : Matching). ListsSame q m) options
    left_text right_text left right p
