-- The partners of right rows.
--
-- Of the left keys "a", "b" and the right keys "b", "a", "c" the right rows 0, 1 and 2 have the
-- left rows 1 and 0 as their partners, and none.
use Rattle.std.specs.Prelude.{◌≡◌, ◌<◌, ℕ, List, Option, None, Some, length, get_or}
use Rattle.std.specs.Prelude.{slice_index}
use Rattle.diff_keys.specs.Matching.{IsAdded}
use Rattle.diff_keys.specs.Partners.{ArePartners, Keys}

-- the left row that is the partner of right row j, or there is none
abbrev pub IsPartnerOf : Keys → Keys → ℕ → Option ℕ → Type 0
IsPartnerOf left right j None = IsAdded left right j
IsPartnerOf left right j (Some i) = ArePartners left right i j

-- one of the first k right rows of a list is j, and the left row at its place is i; or none is j
abbrev pub IsBeside : List ℕ → List ℕ → ℕ → ℕ → Option ℕ → Type 0
IsBeside left_rows right_rows k j None = (t : ℕ) → t < k → ¬ (slice_index right_rows t ≡ j)
IsBeside left_rows right_rows k j (Some i) = (t : ℕ) × (t < k) × (slice_index right_rows t ≡ j)
    × (slice_index left_rows t ≡ i)

-- for each number below n the left row that stands beside it among the first k, or none
pub record AreBeside (left_rows right_rows : List ℕ) (n k : ℕ) (found : List (Option ℕ)) :
    Type 0 where
  pub count : length found ≡ n
  pub each : (j : ℕ) → j < n → IsBeside left_rows right_rows k j (get_or found j None)

-- the partner of each right row, or none
pub record ArePartnersOf (left right : Keys) (partners : List (Option ℕ)) : Type 0 where
  pub one_each : length partners ≡ length right
  pub each : (j : ℕ) → j < length right → IsPartnerOf left right j (get_or partners j None)
