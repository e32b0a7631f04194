-- The bytes that a read appends.
use Rattle.std.specs.Prelude.{◌≡◌, ◌++◌, ℕ, Bool, IsTrue, List, Option}
use Rattle.std.specs.Io.KnownBytes.{Consumes, IsAtEnd}

-- the bytes read, if those of the reader are known, are appended; a read at the end leaves none
pub record ReadsOn (before after : Option (List ℕ)) (old new : List ℕ) (ended : Bool) : Type 0 where
  pub taken : (bytes : List ℕ) × (new ≡ old ++ bytes) × Consumes before after bytes
  pub at_end : IsTrue ended → IsAtEnd after
