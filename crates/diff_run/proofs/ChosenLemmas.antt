-- Columns that the options name.
use Rattle.std.proofs.Common.{◌<◌, ℕ, zero, suc, List, [], ◌∷◌, arith}
use Rattle.diff_columns.specs.Names.{IsKnown, IsUnknown, Names}

-- a name that is unknown in a list of this name alone is not known
pub unknown_alone : (left right : Names) (name : List ℕ) (k : ℕ) → IsUnknown left right (name ∷ []) k → IsKnown left right name → ⊥
unknown_alone left right name zero h known = h.1 known
unknown_alone left right name (suc k) h known = absurd (omega (arith, h.0))
