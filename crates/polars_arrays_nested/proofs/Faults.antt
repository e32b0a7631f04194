-- Parts with a fault are not good.
use Rattle.std.proofs.Common.{◌<◌, ℕ, List, [], ◌∷◌}
use Rattle.std.specs.Prelude.{Option}
use Rattle.polars_arrays_bytes.specs.Faults.{IsBadRow, IsFirstBad}
use Rattle.polars_arrays_bytes.specs.OffsetStrings.{AreGood, IsGoodRow, IsWithin, place_at, row_count}

pub bad_not_good : (n : ℕ) (all : List (Option ℕ)) (row : ℕ) → IsFirstBad n all row → AreGood n all → ⊥
bad_not_good n all row first good = refuted all first.bad good.first (good.rows row)
  where
    refuted : (all : List (Option ℕ)) → IsBadRow n all row → IsWithin n (place_at all 0) → (row < row_count all → IsGoodRow n all row) → ⊥
    refuted [] bad start rows = start
    refuted (only ∷ []) bad start rows = bad.1 start
    refuted (first ∷ second ∷ rest) bad start rows = bad.1 (rows bad.0)

pub ruleset faults = (bad_not_good)
