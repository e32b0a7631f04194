-- The rows of two tables, matched.
--
-- Of the left keys "a", "b", "a" and the right keys "a", "a", "a" the left rows 0 and 2 are matched
-- with the right rows 0 and 1, left row 1 is removed, and right row 2 is added.
use Rattle.std.specs.Prelude.{◌≡◌, ◌<◌, ℕ, suc, length, slice_index}
use Rattle.diff_keys.specs.declared.matching.Matching.{Matching}
use Rattle.diff_keys.specs.Partners.{Keys, ArePartners}
use Rattle.diff_keys.specs.Rising.{ListsRising}

-- no right row is the partner of left row i
abbrev pub IsRemoved : Keys → Keys → ℕ → Type 0
IsRemoved left right i = (j : ℕ) → ¬ (ArePartners left right i j)

-- no left row is the partner of right row j
abbrev pub IsAdded : Keys → Keys → ℕ → Type 0
IsAdded left right j = (i : ℕ) → ¬ (ArePartners left right i j)

-- each pair of partners stands at one place of the two lists, the left rows in rising order; the
-- rows without a partner are removed on the left, and added on the right
pub record IsMatching (left right : Keys) (m : Matching) : Type 0 where
  pub one_length : length m.left_rows.items ≡ length m.right_rows.items
  pub partners : (k : ℕ) → k < length m.left_rows.items
      → ArePartners left right (slice_index m.left_rows.items k) (slice_index m.right_rows.items k)
  pub all_partners : (i j : ℕ) → ArePartners left right i j → (k : ℕ)
      × (k < length m.left_rows.items) × (slice_index m.left_rows.items k ≡ i)
      × (slice_index m.right_rows.items k ≡ j)
  pub in_order : (k : ℕ) → suc k < length m.left_rows.items
      → slice_index m.left_rows.items k < slice_index m.left_rows.items (suc k)
  pub removed : ListsRising (IsRemoved left right) (length left) m.removed.items
  pub added : ListsRising (IsAdded left right) (length right) m.added.items
