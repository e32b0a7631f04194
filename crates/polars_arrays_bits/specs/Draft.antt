-- Bitmap builders as contracts see them.
use Rattle.std.specs.Prelude.{ℕ, Bool, List}

-- the bits pushed so far, and the number of bits that still fit
pub record Draft : Type 0 where
  pub bits : List Bool
  pub room : ℕ
